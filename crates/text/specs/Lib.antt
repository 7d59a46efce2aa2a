-- How numbers and lines are printed, and what a text holds.
pub mod Numbers
pub mod Values
pub mod Lines
pub mod Texts
