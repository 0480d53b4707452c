-- Code points of a source text with their places, and the 16-bit units of a code point.
pub mod Faults
pub mod Points
pub mod Units
