-- Planning with a limit: its numbers in each case, and what is promised of it.
pub mod Answers
pub mod Promised
