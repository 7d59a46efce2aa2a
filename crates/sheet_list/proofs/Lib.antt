-- What writing depends on.
pub mod Same
