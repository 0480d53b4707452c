pub mod Counts
pub mod Visits
