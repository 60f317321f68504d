-- How exits are offered, kept and propagated.
pub mod Stops
pub mod Still
pub mod Adding
pub mod OnLine
pub mod Behind
pub mod Counted
pub mod Turning
