pub mod Binned
pub mod Answering
pub mod Bodies
pub mod Replying
mod Acts
mod FeedActs
mod RequestActs
mod SpentActs
mod LastLines
mod Ends
mod Links
mod Seating
mod Servicing
mod Tending
pub mod Counting
mod Damage
mod Completeness
