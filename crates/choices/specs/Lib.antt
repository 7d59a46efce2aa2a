-- What the sums of choices from a set of jobs are.
pub mod Choices
