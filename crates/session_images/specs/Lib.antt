pub mod Appended
pub mod Agree
