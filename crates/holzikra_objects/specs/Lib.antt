-- Values of JSON for scripts.
pub mod Objects
