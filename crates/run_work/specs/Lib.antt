pub mod Work
pub mod Runs
