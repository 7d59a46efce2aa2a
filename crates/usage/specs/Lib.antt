-- What the call for the use of the cabinet answers.
pub mod Usage
