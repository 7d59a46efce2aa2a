-- What an entry of working memory is.
pub mod Entry
