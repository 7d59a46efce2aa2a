-- What slack answers.
pub mod Slack
pub mod Parts
