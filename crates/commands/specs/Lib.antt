pub mod Words
pub mod Parts
pub mod Values
pub mod Commands
