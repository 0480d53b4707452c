pub mod FunctionSkipped
pub mod HoleFound
pub mod SkippedText
