pub mod Filled
pub mod HollowPrint
pub mod HollowProper
pub mod Hollowing
pub mod OneHead
pub mod Skipping
pub mod Standing
