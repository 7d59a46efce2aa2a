-- Planning with a limit: what it answers, and what is promised of it.
pub mod Limited
pub mod Promised
