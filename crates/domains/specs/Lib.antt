pub mod Choice
pub mod Limits
pub mod Domain
pub mod Promises
pub mod Truth
