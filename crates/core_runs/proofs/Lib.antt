pub mod Kept
pub mod Benches
