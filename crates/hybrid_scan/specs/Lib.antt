pub mod Reader
pub mod Scan
pub mod Progress
pub mod Covers
