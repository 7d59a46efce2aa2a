-- The laws of the replay, for its proofs.
pub mod Modules
pub mod PlacedSlots
pub mod Replays
