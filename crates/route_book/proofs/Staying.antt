-- The first walk of a connector that is not stale stays first.
pub mod Along
pub mod Stays
pub mod Kept
pub mod Reuse
