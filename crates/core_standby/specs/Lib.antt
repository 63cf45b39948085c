pub mod Ran
pub mod Standing
