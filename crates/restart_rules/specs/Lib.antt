pub mod Rewind
