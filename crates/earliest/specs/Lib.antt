-- What the call for the end alone answers.
pub mod Earliest
