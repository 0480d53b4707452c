pub mod Inside
pub mod Listed
pub mod Scripts
pub mod Standing
