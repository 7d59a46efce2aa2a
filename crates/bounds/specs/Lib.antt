-- What shows that no order can end by a target.
pub mod Bounds
