pub mod Headline
pub mod Stepped
pub mod Words
