-- What a card for a sheet must be, and the test of it.
pub mod CardFor
pub mod Test
