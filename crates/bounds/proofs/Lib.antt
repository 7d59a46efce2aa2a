-- Laws of the bounds, for the proofs here and in the search.
pub mod Shortages
pub mod Late
pub mod Closing
pub mod Cuts
