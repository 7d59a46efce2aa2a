-- What the search knows and keeps.
pub mod Search
