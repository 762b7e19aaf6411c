pub mod Integers
pub mod Distance
