-- Lines and columns of a source text, and the characters that are not shown as themselves.
pub mod Places
pub mod Shown
