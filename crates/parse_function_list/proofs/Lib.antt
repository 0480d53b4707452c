mod Late
mod Placing
mod Depths
mod Turns
mod Inside
mod Whole
