-- What the handler keeps, and which early errors of a tree that is.
pub mod Known
pub mod Shapes
pub mod Directives
pub mod Keys
pub mod Firsts
pub mod HasErrors
