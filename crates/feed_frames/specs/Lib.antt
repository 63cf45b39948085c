pub mod Answers
pub mod Counts
pub mod FirstFault
pub mod Frames
pub mod Intake
pub mod Opening
pub mod State
