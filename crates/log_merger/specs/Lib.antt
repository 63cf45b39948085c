pub mod Thread
pub mod Merge
pub mod Merger
pub mod Law
