-- Laws of what is printed of a sheet.
pub mod Lengths
pub mod Reports
pub mod Figures
pub mod Examples
