-- The proofs of the laws of scenes.
pub mod Cases
pub mod Editing
pub mod TakingBack
pub mod ForRouting
pub mod Directions
