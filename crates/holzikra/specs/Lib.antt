-- What the program shows of a text, and of an image.
pub mod Compiling
pub mod Images
pub mod Verdicts
