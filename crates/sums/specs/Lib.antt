-- When a plan can end by the sums of the minutes for which jobs keep their modules, and what modules serve with them.
pub mod Sums
pub mod Serving
