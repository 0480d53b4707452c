-- A script that was told.
pub mod Told
