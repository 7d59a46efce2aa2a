-- The first check that fails, and the numbers of the refusals.
pub mod Checking
pub mod Refusals
