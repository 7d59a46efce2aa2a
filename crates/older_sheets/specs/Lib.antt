-- The layouts before records had arrivals and trailers a changeover, and their sheets in the layout of today.
pub mod Older
pub mod Relaid
