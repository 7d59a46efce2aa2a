-- Figures that several crates share.
pub mod Figures
