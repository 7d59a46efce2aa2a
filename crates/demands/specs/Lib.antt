-- The demands as a buyer reads them.
pub mod Demands
