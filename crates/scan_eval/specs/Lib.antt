pub mod Added
pub mod Admission
pub mod Gathered
pub mod Groups
pub mod KeyIndex
pub mod Places
pub mod Summed
pub mod Tally
