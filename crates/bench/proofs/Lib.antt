pub mod Run
pub mod Lift
pub mod Checks
