-- The laws of heads.
pub mod Advancing
