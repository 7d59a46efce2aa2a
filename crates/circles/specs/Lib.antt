-- Jobs that wait for one another in a circle.
pub mod Circles
