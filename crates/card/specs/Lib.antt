-- The plan card: its bytes, how they are read back, and the rows of the slots from which they are written.
pub mod Card
pub mod Decoding
pub mod Rows
