-- The lines of a plan and of a refusal.
pub mod Printed
pub mod Rows
