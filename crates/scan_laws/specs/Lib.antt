-- What a part of a file is that can be scanned alone.
pub mod Inside
-- How many bytes points take.
pub mod Widths
