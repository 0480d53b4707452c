pub mod Read
pub mod SkippedText
