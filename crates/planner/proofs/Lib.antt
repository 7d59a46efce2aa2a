-- Laws of planning.
pub mod Cards
pub mod Planning
pub mod Calls
pub mod Granted
