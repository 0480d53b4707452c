pub mod Shelf
pub mod Sink
pub mod Files
pub mod MapShelves
pub mod OpenFiles
pub mod Loops
