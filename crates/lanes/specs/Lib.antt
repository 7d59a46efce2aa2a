-- What the lanes serve.
pub mod Lanes
