pub mod Hands
pub mod Numbers
pub mod Requests
pub mod Views
pub mod Works
