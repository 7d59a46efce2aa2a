-- Laws of entries.
pub mod Laws
