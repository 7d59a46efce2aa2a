-- The examples E1 to E11, F-11's rows of the plan runner, and what their rows say.
pub mod Rows
pub mod Table
pub mod Runs
