-- The laws of the card, for the proofs here and in the crates above.
pub mod Joins
pub mod Replays
pub mod Decoding
pub mod OnCard
pub mod Differences
pub mod Samples
