pub mod Parted
pub mod Entered
