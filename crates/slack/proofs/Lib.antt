-- Laws of slack.
pub mod Kept
pub mod Places
pub mod Given
pub mod Calls
pub mod Promised
