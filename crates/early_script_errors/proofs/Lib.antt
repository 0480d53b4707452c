pub mod Checks
pub mod Own
pub mod Words
pub mod Regions
