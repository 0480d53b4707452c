pub mod ShownRows
pub mod Sites
pub mod Counts
