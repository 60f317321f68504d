-- The lemmas on the sweeps, callees first.
pub mod Members
pub mod OneList
pub mod Gaps
pub mod Sides
pub mod Longest
pub mod Standing
pub mod Spans
pub mod KeptAt
pub mod KeptLines
pub mod Loops
pub mod Swept
