pub mod Answers
pub mod Code
pub mod Refusals
pub mod Scripts
pub mod Stencils
pub mod Verified
