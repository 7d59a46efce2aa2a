-- What is asked of two jobs.
pub mod Pairs
