pub mod Bytes
pub mod Pieces
pub mod Sizes
pub mod Texts
pub mod Written
