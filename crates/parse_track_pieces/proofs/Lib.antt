pub mod PieceEquations
pub mod Appending
pub mod Saying
pub mod Logs
pub mod Walking
pub mod Numbers
