-- The laws of lanes.
pub mod Laws
