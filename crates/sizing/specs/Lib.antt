-- What the call for the least module count answers, and what is promised of it.
pub mod Sizing
pub mod Promised
