-- What the thin calls answer and leave in lent memory.
pub mod Lent
