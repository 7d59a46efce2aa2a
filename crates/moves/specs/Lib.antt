-- What a move makes of an order.
pub mod Moves
