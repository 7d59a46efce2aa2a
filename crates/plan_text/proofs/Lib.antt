-- Laws of the lines of a plan.
pub mod Sheets
