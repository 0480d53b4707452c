-- The log of a track, read as texts, and its regions put together again.
pub mod Spelled
pub mod Reading
