-- That the examples hold.
pub mod Held
pub mod Instances
pub mod Runs
pub mod Slacks
