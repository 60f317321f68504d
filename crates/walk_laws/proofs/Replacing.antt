-- Parts of a first walk that other steps may replace, and what this makes of them.
pub mod Least
pub mod Tours
pub mod Parts
pub mod Legs
pub mod InnerRuns
pub mod HeldRuns
