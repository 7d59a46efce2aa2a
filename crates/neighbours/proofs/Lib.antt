-- Controllers that keep to their assured shares are answered as if they were alone, runners among them.
pub mod Alone
pub mod Moves
pub mod Mergings
pub mod Running
pub mod Instance
