pub mod Places
pub mod Sweeps
pub mod Steps
pub mod Edges
