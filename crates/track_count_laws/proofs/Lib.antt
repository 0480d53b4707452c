pub mod Slots
pub mod Regions
pub mod Scripts
