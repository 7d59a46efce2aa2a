-- The laws of the table of the jobs that are left.
pub mod Rows
pub mod Prices
pub mod Orders
pub mod Tables
pub mod Answers
