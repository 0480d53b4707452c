pub mod Initial
pub mod Records
