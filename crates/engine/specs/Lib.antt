pub mod States
pub mod Runs
