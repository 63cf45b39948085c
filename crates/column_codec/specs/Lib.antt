pub mod Values
pub mod Bounds
pub mod Column
pub mod Extent
