-- The inverse of an edit takes it back, and so do the inverses of a row of edits.
pub mod Restoring
pub mod Chains
