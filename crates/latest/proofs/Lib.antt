-- Laws of the latest starts.
pub mod Signed
pub mod Rounds
pub mod Chains
pub mod Means
pub mod Same
