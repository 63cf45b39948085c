pub mod Acts
pub mod Seating
pub mod Work
pub mod Rounds
pub mod Waiting
pub mod Delivered
