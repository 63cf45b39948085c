pub mod Address
pub mod Area
pub mod Held
pub mod Shard
pub mod Text
pub mod Values
