pub mod Files
pub mod Passes
pub mod Views
