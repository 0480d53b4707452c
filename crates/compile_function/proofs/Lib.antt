pub mod Atoms
pub mod Functions
pub mod Shown
