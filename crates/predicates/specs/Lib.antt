pub mod Codes
pub mod Counts
