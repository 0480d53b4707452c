-- Which functions are around a place, and inside others.
pub mod Finding
