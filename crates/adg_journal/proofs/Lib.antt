pub mod Once
pub mod Areas
pub mod Membership
