-- Which verdicts count, when answers have colours, what the program ends with, and what is written of compiled texts and images.
pub mod Answers
pub mod Compiling
pub mod Images
pub mod Looks
pub mod Statuses
