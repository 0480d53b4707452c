pub mod Alone
pub mod Carried
pub mod Closed
pub mod Functions
pub mod Held
