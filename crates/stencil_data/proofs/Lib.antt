pub mod ChainWalk
pub mod FirstPlaces
pub mod ResolveFits
pub mod ResolveRows
pub mod SlotRows
pub mod StandsForRows
