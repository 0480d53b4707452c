pub mod Ranged
pub mod Verifying
pub mod SameSteps
pub mod SameVerdict
pub mod ImageCodes
pub mod OneListing
pub mod OneVerdict
