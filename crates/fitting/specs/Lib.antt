-- What the table of the jobs that are left says.
pub mod Fitting
