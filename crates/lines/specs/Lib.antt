pub mod Fields
pub mod Spelling
pub mod Reading
pub mod Writing
