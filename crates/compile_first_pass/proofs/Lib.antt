pub mod FileLemmas
pub mod PassLemmas
pub mod SkimLemmas
pub mod TokenStarts
mod FewTokens
