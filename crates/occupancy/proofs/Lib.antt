-- What jobs occupy in a valid plan, and what the share says.
pub mod Occupied
pub mod Shares
