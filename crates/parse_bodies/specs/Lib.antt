pub mod Blocks
pub mod Means
pub mod Whole
