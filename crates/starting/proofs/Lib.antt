-- Laws of the jobs that start early, for the proofs here and in the crate above.
pub mod Sifting
