-- The lemmas of this crate.
pub mod Proposable
pub mod OneOutput
