-- The lemmas of the text of proofs.
pub mod Chains
pub mod Folds
pub mod LineBytes
pub mod Numbers
pub mod Once
pub mod Parting
pub mod Said
pub mod Words
pub mod Writing
