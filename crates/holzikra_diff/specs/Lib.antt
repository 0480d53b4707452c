pub mod Changes
pub mod Hunks
