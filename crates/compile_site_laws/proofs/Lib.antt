mod Listing
pub mod Sites
pub mod Standing
