-- What an archive is, in the order in which it is best read: what it has, what its acts do, what always holds of it, and what is
-- promised to those who act on it.

-- What it has
pub mod Event
pub mod Rows
pub mod Whole
pub mod Rule
pub mod Limbo
pub mod Files
pub mod Machine
pub mod Changes
-- What is asked, and what it does
pub mod Reply
pub mod Outcome
pub mod Register
pub mod Pause
pub mod Resume
pub mod Rename
pub mod Offer
pub mod Tick
pub mod Flush
pub mod Parts
pub mod MoveBegin
pub mod MoveStep
pub mod Sweep
pub mod Pin
pub mod OpenPiece
pub mod Unpin
pub mod Names
pub mod Details
pub mod Doors
pub mod Step
pub mod Answers
-- What always holds
pub mod Sound
pub mod Growth
pub mod Crash
pub mod NextLife
-- Those who act, and what they are promised
pub mod History
pub mod Asks
pub mod Lives
pub mod Roles
pub mod Alone
pub mod Pinned
pub mod Out
-- All of it as laws
pub mod Laws
pub mod Examples
