-- Deciding: facts that hold or are refuted, and sets of places that grow until they are closed.
pub mod Decided
pub mod Alike
pub mod Counting
