-- The jobs that may come next.
pub mod Candidates
