pub mod OwnUses
pub mod Turns
