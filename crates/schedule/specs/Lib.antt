-- The definitions of plans (docs/REQUIREMENTS.md, P), in the order in which they are read; then what the laws of the search speak of.
pub mod Plan
pub mod ListPlan
pub mod TieRule
pub mod Ends
pub mod Cabinets
pub mod Rows
pub mod ValidTest
pub mod Beginnings
pub mod PartPlans
pub mod Bounds
