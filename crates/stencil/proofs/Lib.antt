pub mod CodeLemmas
pub mod ScriptLemmas
pub mod VerifiedLemmas
