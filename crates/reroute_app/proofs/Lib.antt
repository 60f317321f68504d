-- The lemmas of this crate.
pub mod Courses
pub mod Stops
pub mod Crews
pub mod Scripts
pub mod ReadScenes
pub mod OneOutcome
pub mod Causes
pub mod PastReads
pub mod Claims
pub mod Lines
pub mod Places
pub mod Completeness
