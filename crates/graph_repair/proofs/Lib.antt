-- The lemmas on repairs, callees first.
pub mod Counted
pub mod Taken
pub mod Pairs
pub mod Covering
pub mod Unchanged
pub mod Listing
pub mod Compared
pub mod Exchanged
pub mod OneCount
