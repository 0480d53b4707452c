pub mod Holes
pub mod Hollow
pub mod Skipped
