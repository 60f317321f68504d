-- The proofs, in the order of docs/PROOFS.md.
pub mod Arithmetic
pub mod Optimum
pub mod Gaps
pub mod Verifying
pub mod Rounding
pub mod Chains
pub mod Padded
