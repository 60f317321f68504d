-- The lemmas on what is generated from a seed, callees first.
pub mod DrawLemmas
pub mod Nodes
pub mod Unrefused
pub mod Steps
pub mod Bends
pub mod Summing
pub mod Script
pub mod OneOutput
