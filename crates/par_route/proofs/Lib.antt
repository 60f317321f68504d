-- The proofs of searches side by side.
pub mod OneList
pub mod Zips
pub mod Lengths
pub mod Cutting
pub mod Joining
pub mod Sheet
