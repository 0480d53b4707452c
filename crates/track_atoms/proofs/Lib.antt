mod First
pub mod Found
pub mod Interning
