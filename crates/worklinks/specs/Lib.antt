pub mod Gathered
pub mod Chopped
