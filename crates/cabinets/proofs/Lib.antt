-- Laws of the least count.
pub mod Counts
