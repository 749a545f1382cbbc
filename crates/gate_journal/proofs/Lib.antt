pub mod Begin
mod Bytes
mod Checkpoints
mod Committing
mod Deciding
pub mod Elsewhere
pub mod FileNames
mod Files
pub mod FirstBad
mod Growing
pub mod Holding
pub mod Keeping
mod Loading
mod LoadingBoth
mod LoadingEach
pub mod Meaning
mod NamedErrs
pub mod OneReading
mod Owned
pub mod Owning
mod Pieces
mod Removing
pub mod Results
mod Reviewing
mod Steps
mod Switching
mod Synced
pub mod Telling
mod Turns
mod Unmoved
