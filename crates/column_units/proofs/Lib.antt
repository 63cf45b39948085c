pub mod Map
pub mod Units
pub mod Rows
mod Looked
