-- The test of a card is true exactly where the card is one for the sheet.
pub mod Exact
pub mod Same
