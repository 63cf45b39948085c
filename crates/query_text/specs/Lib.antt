pub mod Stopping
pub mod Words
pub mod Parts
pub mod Literals
pub mod Listed
