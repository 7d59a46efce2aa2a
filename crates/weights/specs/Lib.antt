-- What the weightings of a sheet are.
pub mod Weights
