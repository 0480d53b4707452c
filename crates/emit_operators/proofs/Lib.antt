mod OperatorRows
pub mod Plain
