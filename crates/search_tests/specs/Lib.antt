-- The definitions of the tests of walks, searches and verdicts.
pub mod Idle
