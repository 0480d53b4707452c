mod Lacking
mod Nested
mod Unshown
pub mod Counts
pub mod Flags
pub mod Steps
pub mod Upward
