-- The laws of the desk, for the crates above.
pub mod Sound
pub mod Loops
pub mod Refusals
pub mod Grants
pub mod Padded
pub mod Keeps
pub mod NewFigures
pub mod Reaches
pub mod Claims
pub mod Lists
pub mod Holdings
pub mod Times
pub mod ScaledDesk
pub mod Scaling
pub mod Samples
