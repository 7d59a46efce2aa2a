-- What planning answers.
pub mod Planning
pub mod Planned
