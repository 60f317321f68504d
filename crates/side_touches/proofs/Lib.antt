-- The lemmas on what touches lines, callees first.
pub mod Members
pub mod Meeting
pub mod InOrder
pub mod Runs
pub mod Pieces
