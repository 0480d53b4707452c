-- A text without its colour sequences.
pub mod Colours
