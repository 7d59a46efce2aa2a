-- What the jobs that may come next are.
pub mod Branching
