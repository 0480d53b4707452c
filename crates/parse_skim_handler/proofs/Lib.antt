pub mod Telling
pub mod Meanings
pub mod Standing
pub mod Images
pub mod StandingParts
pub mod StandingFunctions
pub mod Made
