-- The definitions of sessions.
pub mod Runs
pub mod Shares
pub mod Turning
pub mod Upheld
