-- The lemmas on what exists and on what is read, callees first.
pub mod Deciding
pub mod Walking
pub mod Answering
pub mod Auditing
pub mod LeastLabels
pub mod Readings
pub mod Solving
pub mod Arguing
pub mod Proposing
pub mod Describing
pub mod Keeping
pub mod Retelling
pub mod Sharing
pub mod Nudging
