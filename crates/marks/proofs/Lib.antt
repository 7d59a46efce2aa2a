-- Laws of which jobs follow which, and of the marks that others imply.
pub mod Levels
pub mod Steps
pub mod Listed
pub mod Same
