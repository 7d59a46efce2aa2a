-- The least module count, and what is promised of it.
pub mod Refusals
pub mod Calls
pub mod OtherN
pub mod Promised
