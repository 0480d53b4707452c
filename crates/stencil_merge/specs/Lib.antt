pub mod Atoms
pub mod Functions
pub mod Instructions
pub mod Merging
pub mod Parts
pub mod Texts
pub mod Whole
