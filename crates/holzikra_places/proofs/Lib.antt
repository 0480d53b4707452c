pub mod MarkLemmas
pub mod PlaceLemmas
mod PlaceRows
mod ShownLemmas
