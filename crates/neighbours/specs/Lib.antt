-- F-13: neighbours who cannot be noticed.
pub mod Alone
pub mod Moves
