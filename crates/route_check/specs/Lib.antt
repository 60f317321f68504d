-- The verdict on a line, and its parts.
pub mod Line
pub mod Steps
pub mod Run
pub mod Choices
pub mod Verdict
pub mod Hit
