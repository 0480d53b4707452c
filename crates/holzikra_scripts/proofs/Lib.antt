pub mod ImageLemmas
pub mod LineLemmas
pub mod NoteLemmas
