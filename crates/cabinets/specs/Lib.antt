-- How many modules are enough.
pub mod Counts
