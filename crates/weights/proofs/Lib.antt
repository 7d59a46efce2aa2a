-- The laws of weights.
pub mod Puts
pub mod Knapsack
pub mod Walks
