-- What the handler keeps of a script, and which trees its nodes stand for.
pub mod Telling
pub mod Packed
pub mod Meaning
pub mod Kept
pub mod Means
pub mod Skims
