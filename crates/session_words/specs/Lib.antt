pub mod Asked
pub mod Chosen
pub mod Faults
pub mod Numbers
pub mod Words
