-- Sheets of before in the layout of today: the same refusals, jobs and plans.
pub mod Parts
pub mod Relaid
pub mod Rows
pub mod Samples
pub mod Examples
