-- What every planning call begins with.
pub mod Planable
pub mod Results
