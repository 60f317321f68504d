-- The lines of an arena in order.
pub mod InOrder
pub mod OrderKept
