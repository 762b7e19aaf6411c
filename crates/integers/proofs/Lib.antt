pub mod Order
pub mod Wrapping
pub mod Still
