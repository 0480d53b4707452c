pub mod Steps
pub mod Survey
pub mod NoteIndex
pub mod Catches
pub mod Verdicts
pub mod Parts
