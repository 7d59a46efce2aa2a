-- The job table of a reading.
pub mod Table
