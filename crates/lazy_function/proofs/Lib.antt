pub mod Among
mod ExtentsInside
pub mod Numbered
