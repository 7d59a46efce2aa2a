-- Laws of the area bounds.
pub mod Summing
pub mod Late
