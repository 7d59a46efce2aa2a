-- The laws of counting, for the crates above.
pub mod Tests
pub mod Sums
pub mod Intervals
pub mod Ranges
pub mod Counts
pub mod Joins
pub mod Loops
pub mod Iterated
pub mod Subsets
