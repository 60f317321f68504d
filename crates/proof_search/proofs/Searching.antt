-- The search: places are taken until none is left, and then no walk reaches one for less than its label.
pub mod Taking
pub mod Spreading
pub mod Least
