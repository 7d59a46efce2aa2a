-- The theorem of R-3.3 over the desk's calls, and an instance of it.
pub mod Turns
pub mod Course
pub mod Shares
pub mod Minutes
pub mod Follows
pub mod Assured
pub mod Once
pub mod Yard
