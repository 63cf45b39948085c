pub mod Blocks
pub mod Columns
