-- What the replay of an order gives.
pub mod Slots
