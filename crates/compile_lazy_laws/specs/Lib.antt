pub mod Inside
pub mod UpTo
