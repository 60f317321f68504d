-- The lemmas of this crate, callees first.
pub mod Counts
pub mod Lines
pub mod Findings
pub mod OneCheck
