pub mod Compiling
pub mod Sites
