-- Laws of the sums of choices, for the crates above.
pub mod Choices
pub mod Longest
