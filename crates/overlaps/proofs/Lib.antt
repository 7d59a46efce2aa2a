-- The laws of jobs that must overlap.
pub mod Laws
