-- The laws of the list plans to begin with.
pub mod Listing
