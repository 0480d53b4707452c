pub mod DeskView
pub mod ListView
pub mod Rule
pub mod Views
pub mod Words
