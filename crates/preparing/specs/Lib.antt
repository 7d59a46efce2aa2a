-- What the prepared table says.
pub mod Preparing
