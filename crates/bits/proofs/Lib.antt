-- The laws of sets held in one number, for the proofs here and in the crates above.
pub mod Digits
pub mod Members
pub mod Sets
pub mod Ones
pub mod Walks
pub mod Weighing
pub mod Numbers
