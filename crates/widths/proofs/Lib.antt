-- The laws of widths.
pub mod Sums
pub mod Filling
