pub mod Workload
pub mod Feeds
pub mod Tiers
pub mod Report
