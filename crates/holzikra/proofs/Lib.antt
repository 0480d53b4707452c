pub mod CompiledLemmas
pub mod ImageLemmas
pub mod JudgeLemmas
