-- When jobs that are left must overlap.
pub mod Overlaps
