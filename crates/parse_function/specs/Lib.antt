pub mod Alone
pub mod Extents
pub mod Words
pub mod Shifted
pub mod Holes
pub mod Without
pub mod Left
pub mod Glued
