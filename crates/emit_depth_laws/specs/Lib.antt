pub mod Accepted
pub mod Assigning
pub mod Targets
