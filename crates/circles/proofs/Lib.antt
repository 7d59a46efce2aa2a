-- Laws of taking jobs out one after another.
pub mod Taking
