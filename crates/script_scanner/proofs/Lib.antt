-- Lemmas of the scanner.
pub mod BlankLemmas
pub mod ByteLemmas
pub mod FrontLemmas
pub mod KindLemmas
pub mod KnownLemmas
pub mod Lists
pub mod MarkLemmas
pub mod NameLemmas
pub mod NumberLemmas
pub mod PartLemmas
pub mod PieceLemmas
pub mod OrderLemmas
pub mod Rows
pub mod ScanLemmas
pub mod SpaceLemmas
pub mod WordLemmas
