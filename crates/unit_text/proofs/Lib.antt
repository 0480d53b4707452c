-- Lemmas on the points of a text.
pub mod Decoding
mod Blocks
