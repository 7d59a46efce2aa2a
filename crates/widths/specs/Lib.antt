-- Sums of widths, and how many modules they fill.
pub mod Widths
