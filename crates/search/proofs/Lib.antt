-- The laws of the search.
pub mod Recalls
pub mod Turns
pub mod Passing
pub mod Sweeps
pub mod Whole
pub mod Placings
