-- The laws of releases.
pub mod Laws
