-- The laws of the jobs that may come next.
pub mod Starting
pub mod Choices
pub mod Children
