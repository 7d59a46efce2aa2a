-- Laws of the job sets that part-plans hold.
pub mod Splits
pub mod Closed
pub mod Choosing
pub mod Remaining
pub mod Counted
pub mod Answers
pub mod Held
pub mod Shapes
