pub mod AppendLemmas
pub mod Bytes
pub mod Decode
pub mod ReadBack
