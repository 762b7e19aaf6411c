pub mod Parts
pub mod Dense
pub mod Spans
pub mod Windows
pub mod Walks
pub mod Sparse
pub mod Covering
