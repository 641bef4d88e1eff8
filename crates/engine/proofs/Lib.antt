pub mod Serves
pub mod Runs
