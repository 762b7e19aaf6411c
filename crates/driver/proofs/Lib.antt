pub mod ListLaws
pub mod ReplyLaws
pub mod RunLaws
pub mod Kept
