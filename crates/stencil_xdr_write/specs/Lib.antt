pub mod MoreNamed
pub mod Named
pub mod Numbers
pub mod Whole
pub mod Writes
