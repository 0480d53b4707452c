pub mod Showing
pub mod ShownFlags
