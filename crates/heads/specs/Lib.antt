-- The minutes before which jobs cannot start.
pub mod Heads
