-- What the pass over the records found, of the list of jobs that it gives.
pub mod Found
