-- The laws of what follows from a sheet's jobs alone.
pub mod Steps
pub mod Chaining
pub mod Waiting
pub mod Pairs
