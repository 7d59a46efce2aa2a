-- Laws of free modules.
pub mod Laws
