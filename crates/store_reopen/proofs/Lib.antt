pub mod Swept
pub mod AdoptedDisk
pub mod TakenFiles
pub mod Counts
pub mod Stages
pub mod Marking
pub mod Having
pub mod Verdicts
