-- The laws of part-plans in code, for the proofs here and in the crates above.
pub mod Waits
pub mod Profiles
pub mod Inserts
pub mod Placing
pub mod Parts
