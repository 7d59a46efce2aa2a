-- What a set of numbers held in one number is.
pub mod Bits
