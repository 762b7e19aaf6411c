pub mod Capacities
pub mod Refusals
pub mod Words
pub mod Story
pub mod Calls
pub mod Questions
pub mod Promises
pub mod QuestionPromises
