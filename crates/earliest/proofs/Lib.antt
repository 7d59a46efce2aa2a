-- The earliest end is that of the tie rule's plan.
pub mod Ends
pub mod Promised
