pub mod ReadLemmas
pub mod WriteLemmas
pub mod ManyLemmas
pub mod OpenedLemmas
