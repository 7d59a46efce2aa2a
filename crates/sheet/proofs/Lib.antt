-- Laws that the proofs share, and the theorems on job sheets.
pub mod Answers
pub mod Pass
pub mod Labels
pub mod Writes
pub mod Refusals
pub mod Layouts
pub mod WrittenReads
pub mod ReadIsWritten
pub mod LabelRule
pub mod Examples
pub mod Rows
pub mod Samples
