pub mod Unit
pub mod Shard
pub mod Look
