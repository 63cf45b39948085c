pub mod Draws
pub mod Tables
pub mod Transfers
pub mod Commands
pub mod Generated
pub mod Written
pub mod Bounds
pub mod Laws
