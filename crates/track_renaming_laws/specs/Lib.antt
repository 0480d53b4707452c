-- Names that are written down in another way.
pub mod Renaming
pub mod Starts
pub mod Alike
pub mod Occurring
pub mod Texts
