pub mod Asked
pub mod EveryFunction
pub mod Inside
pub mod Limits
pub mod Names
pub mod Places
pub mod FullNames
pub mod Offsets
