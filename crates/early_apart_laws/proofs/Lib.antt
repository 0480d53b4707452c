-- The early errors of a script, from those of its parts.
pub mod Apart
pub mod Parts
pub mod Sooner
pub mod Unchanged
