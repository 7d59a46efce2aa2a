-- Laws of texts, and of numbers as they are printed.
pub mod Adding
pub mod Fields
pub mod Signs
pub mod Lengths
pub mod Values
pub mod Samples
