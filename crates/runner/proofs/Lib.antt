-- The plan runner: which runners can be, and that after an accepted start every step is granted.
pub mod Places
pub mod Passes
pub mod Starts
pub mod Keeps
pub mod Steps
pub mod Running
pub mod Reaches
pub mod Planned
pub mod Theorems
