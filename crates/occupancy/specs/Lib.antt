-- What jobs occupy, and what share of the cabinet that is.
pub mod Occupancy
