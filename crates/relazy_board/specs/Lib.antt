pub mod Board
pub mod BoardView
pub mod Depth
pub mod Held
pub mod Results
