-- Laws of job tables.
pub mod Laws
pub mod Ends
