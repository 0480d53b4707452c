pub mod Crossing
pub mod Depths
mod Results
mod Slots
mod Standing
mod Upward
