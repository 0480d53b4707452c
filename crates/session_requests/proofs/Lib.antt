mod Asking
pub mod Crossing
pub mod Fitting
pub mod Lacking
pub mod Seats
mod TaskNumbers
