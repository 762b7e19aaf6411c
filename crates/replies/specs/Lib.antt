pub mod Replies
pub mod Text
