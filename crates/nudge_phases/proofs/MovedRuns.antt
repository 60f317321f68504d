-- Where runs and their corners stand after a phase.
pub mod Ends
pub mod Cleared
pub mod Corners
pub mod Bundled
pub mod OnePlace
