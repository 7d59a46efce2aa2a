-- Numbers of several bytes.
pub mod Words
