-- Calls made together, one more at a time.
pub mod Calls
pub mod Same
