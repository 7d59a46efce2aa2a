-- Module-minutes that have no room up to a target.
pub mod Areas
