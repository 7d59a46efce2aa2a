-- What is counted, summed and tested over the numbers below n.
pub mod Counting
