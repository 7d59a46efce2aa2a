-- The use of the cabinet: what the call answers, and what is promised of it.
pub mod Answers
pub mod Promised
