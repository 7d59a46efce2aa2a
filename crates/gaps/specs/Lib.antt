-- How many steps a plan by gaps has.
pub mod Gaps
