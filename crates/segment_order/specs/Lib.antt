-- The definitions of runs and of their order on a line.
pub mod Side
pub mod Run
pub mod Ray
pub mod Order
