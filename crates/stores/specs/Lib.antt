pub mod Store
pub mod Calls
pub mod Made
pub mod Replay
pub mod Positions
pub mod Promises
