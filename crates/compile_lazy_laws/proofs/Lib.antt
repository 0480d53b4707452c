mod Forests
mod Numbers
mod Valid
pub mod Outermost
mod Entries
pub mod Merging
pub mod Asking
pub mod Inside
