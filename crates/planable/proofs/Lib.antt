-- Laws of what the planning calls begin with.
pub mod Circles
pub mod Tables
pub mod Planable
