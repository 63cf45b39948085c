pub mod Chains
pub mod Counts
pub mod Tracking
pub mod Steps
pub mod Catalogs
pub mod Rows
pub mod Follows
