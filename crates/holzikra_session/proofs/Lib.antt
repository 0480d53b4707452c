pub mod CompiledLemmas
pub mod ImageLemmas
