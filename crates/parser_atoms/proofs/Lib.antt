-- Lemmas on the places of texts.
pub mod Interning
