mod Joining
mod Parts
pub mod Laws
