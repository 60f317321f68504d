-- The lemmas of scripts.
pub mod Directed
pub mod Chains
pub mod Counts
pub mod Fronts
pub mod Lines
pub mod Rising
