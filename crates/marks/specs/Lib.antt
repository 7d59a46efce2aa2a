-- Which jobs follow which, and which marks others imply.
pub mod Following
pub mod Marks
pub mod Implied
