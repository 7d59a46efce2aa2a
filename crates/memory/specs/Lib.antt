-- What working memory holds.
pub mod Entries
