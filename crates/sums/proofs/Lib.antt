-- The laws of sums, for the proofs here.
pub mod Halves
pub mod Rounding
pub mod Serving
