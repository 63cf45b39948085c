pub mod HeadlineLaws
pub mod NextLaws
pub mod ProgressLaws
pub mod StoppedReading
pub mod Weaker
