-- The lemmas of this crate.
pub mod Decimals
pub mod Rounding
pub mod Powers
pub mod Splitting
pub mod Reading
pub mod Computing
pub mod Wholes
