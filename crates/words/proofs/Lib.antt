-- Laws of numbers in bytes, and of slices that are written part by part.
pub mod Bytes
pub mod Numbers
pub mod Parts
pub mod Writes
