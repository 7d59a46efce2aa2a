-- What a change hands back.
pub mod Change
