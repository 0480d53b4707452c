pub mod AtHand
pub mod Counting
mod FilledFacts
mod Notes
mod Upward
