pub mod Handed
pub mod Names
pub mod Sites
pub mod Sound
