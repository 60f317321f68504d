-- Offers: what a label says of a walk, and what an offer does to the labels.
pub mod OnePlace
pub mod Scopes
pub mod Weights
pub mod Offering
pub mod Propagating
pub mod Entering
