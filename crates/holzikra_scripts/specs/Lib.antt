-- What is written of a script, and of an image; in which order counts stand.
pub mod Images
pub mod Notes
pub mod Rows
pub mod Written
