-- The plan runner: what a start and a step answer, which runners can be, and a yard with runners.
pub mod Runner
pub mod Results
pub mod Reachable
pub mod Moves
