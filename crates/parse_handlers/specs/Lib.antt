pub mod Kept
pub mod Inner
pub mod FoundOf
pub mod Held
