-- The early errors that look at no region, part by part.
pub mod Emptied
pub mod Late
pub mod Notes
