pub mod Pieces
pub mod Parts
pub mod Says
pub mod Walks
pub mod Weight
