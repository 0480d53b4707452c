-- Members of objects, and lines.
pub mod Lines
