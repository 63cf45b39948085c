pub mod Run
pub mod Summary
pub mod Telling
pub mod Words
