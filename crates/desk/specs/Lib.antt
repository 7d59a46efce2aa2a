-- The definitions of the desk (requirements, K) and of the checks 11 to 18, 21 and 22, in the order in which they are read.
pub mod Desk
pub mod Checks
pub mod Reachable
pub mod Calls
pub mod Rows
pub mod Scaling
