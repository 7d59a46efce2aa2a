-- A lent list of jobs as a list of fixed length.
pub mod Gather
