pub mod Ending
pub mod Headline
pub mod Progress
pub mod Report
pub mod Standby
pub mod Status
pub mod View
