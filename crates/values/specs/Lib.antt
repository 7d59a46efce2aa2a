-- What the lanes of a sheet are.
pub mod Values
