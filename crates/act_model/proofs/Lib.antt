pub mod Puts
pub mod RowLaws
pub mod ChangeLaws
pub mod Rows
pub mod MadeLaws
pub mod Wholes
pub mod Bases
pub mod Partitions
pub mod Copies
pub mod Revivals
pub mod PinnedPieces
pub mod MadeSound
pub mod TailLaws
pub mod StepLaws
pub mod RowActs
pub mod MoveActs
pub mod PinActs
pub mod StepSound
pub mod Onward
pub mod StepOnward
pub mod StepLeft
pub mod FlushLeft
pub mod MoveLaws
pub mod Histories
pub mod PinLaws
pub mod CrashRuns
pub mod NextLife
pub mod WholeLaws
pub mod ActsAlone
mod LivesLaws
mod AnswerLaws
mod ToldLaws
mod ExampleLaws
pub mod Places
