-- The lemmas of this crate.
pub mod OneText
