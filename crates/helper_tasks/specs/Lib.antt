pub mod Meeting
pub mod Count
pub mod Rule
pub mod Handles
pub mod Jobs
pub mod Hands
pub mod Desks
pub mod Crew
