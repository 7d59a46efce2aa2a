-- The calls of a minute, made together.
pub mod Together
