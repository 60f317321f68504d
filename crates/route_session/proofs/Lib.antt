-- The lemmas of sessions.
pub mod FewRuns
pub mod RawRoutes
pub mod Running
pub mod Steps
pub mod Turns
pub mod Upholding
