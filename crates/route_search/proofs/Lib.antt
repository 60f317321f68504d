-- The lemmas on searches, callees first.
pub mod Checkpoints
pub mod Matching
pub mod Ahead
pub mod Moving
pub mod Tracing
