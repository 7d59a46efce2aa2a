-- What a change answers, test by test.
pub mod Cases
