-- Laws of the jobs that are to be tried and of blocks, for the proofs here and in the crates above.
pub mod Trying
pub mod Blocks
