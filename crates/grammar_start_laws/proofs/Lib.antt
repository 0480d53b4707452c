pub mod Finding
pub mod KeepingLaws
pub mod OwnBodies
pub mod OwnInside
pub mod Starting
pub mod WholeTrees
pub mod Rising
