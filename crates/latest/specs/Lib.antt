-- The latest start of each job, and what the code keeps of it.
pub mod Latest
pub mod Counted
