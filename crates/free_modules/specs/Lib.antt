-- The lowest modules outside a set.
pub mod Lowest
