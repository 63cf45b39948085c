pub mod Places
pub mod Area
pub mod Shown
