pub mod NextRecordLaws
pub mod ReadingLaws
pub mod AssemblyLaws
