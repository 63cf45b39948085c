pub mod Many
pub mod Readers
pub mod Fields
pub mod Values
pub mod Sizes
pub mod Vectors
pub mod Bodies
pub mod Written
