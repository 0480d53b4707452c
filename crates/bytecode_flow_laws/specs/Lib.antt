pub mod Depths
pub mod Staying
