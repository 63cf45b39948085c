pub mod Worked
pub mod Turned
pub mod Played
pub mod Cycles
pub mod Seated
pub mod Crewed
pub mod Asked
pub mod Delivering
