-- What it is to follow a plan on a desk, and what falls due in a minute.
pub mod Following
pub mod Minutes
