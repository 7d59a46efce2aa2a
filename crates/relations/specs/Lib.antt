-- What is made once of a sheet's jobs for a search.
pub mod Relations
