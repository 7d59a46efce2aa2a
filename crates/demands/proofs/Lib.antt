-- The three theorems.
pub mod Demands
