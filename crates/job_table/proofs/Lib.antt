-- Laws of the job table of a reading.
pub mod Copies
pub mod Cabinets
