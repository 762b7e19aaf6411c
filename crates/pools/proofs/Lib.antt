pub mod ChainLaws
pub mod WalkLaws
pub mod RunLaws
pub mod Bits
