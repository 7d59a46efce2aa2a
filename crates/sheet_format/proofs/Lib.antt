-- Laws of the format, for the crates above.
pub mod Bounds
pub mod Lists
pub mod Parts
pub mod Trailers
pub mod Cuts
pub mod LabelRule
pub mod Digits
