pub mod Passes
pub mod Skims
