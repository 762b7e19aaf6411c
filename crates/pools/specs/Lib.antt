pub mod Chain
pub mod Runs
