-- Which of a set of jobs start alone, or early.
pub mod Starting
