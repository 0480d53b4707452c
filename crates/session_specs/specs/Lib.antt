pub mod Answer
pub mod Compiled
pub mod Refusals
pub mod Sources
