-- The bytes of a job sheet, and the checks on them.
pub mod Figures
pub mod Format
pub mod Checks
