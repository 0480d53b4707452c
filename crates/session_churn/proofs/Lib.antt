mod Crossing
pub mod Instructions
pub mod Totals
