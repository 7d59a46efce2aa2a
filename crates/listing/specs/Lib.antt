-- What a list plan to begin the search with is.
pub mod Listing
