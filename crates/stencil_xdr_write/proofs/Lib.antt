pub mod CodeWalk
pub mod Handing
pub mod MoreFirsts
pub mod Naming
pub mod Whole
pub mod Written
