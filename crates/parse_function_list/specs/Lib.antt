pub mod Listing
pub mod Lists
pub mod Placed
pub mod Strict
pub mod Weight
