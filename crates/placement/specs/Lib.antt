-- What a part-plan in code is.
pub mod Profile
pub mod Part
