-- What is printed of a sheet.
pub mod Report
pub mod Figures
