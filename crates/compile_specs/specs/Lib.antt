pub mod Alone
pub mod Eager
pub mod Shown
pub mod Counted
