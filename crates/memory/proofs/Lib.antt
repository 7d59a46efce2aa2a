-- Laws of working memory.
pub mod Slots
pub mod Storing
