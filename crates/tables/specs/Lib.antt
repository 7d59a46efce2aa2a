-- The tables that the search is lent.
pub mod Tables
pub mod Part
