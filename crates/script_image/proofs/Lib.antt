pub mod CodeLoop
pub mod Cutting
pub mod Padded
pub mod Printing
pub mod Scripts
pub mod Stands
pub mod Walks
