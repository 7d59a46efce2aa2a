-- The laws of checking, for the crates above.
pub mod Numbers
pub mod Order
