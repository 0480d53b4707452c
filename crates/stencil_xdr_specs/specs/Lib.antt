pub mod Image
pub mod Widths
