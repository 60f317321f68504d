-- The lemmas on first walks, callees first.
pub mod Steps
pub mod Replacing
pub mod OnKeptLines
pub mod FewAndSmall
pub mod Cases
