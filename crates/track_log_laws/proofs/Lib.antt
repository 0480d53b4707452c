pub mod Putting
pub mod Laid
pub mod Reading
pub mod Texts
pub mod Counts
pub mod Lengths
pub mod Scripts
