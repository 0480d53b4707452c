pub mod Pigeons
pub mod Steps
pub mod Probes
