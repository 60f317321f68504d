-- The definitions of scenes.
pub mod Scene
pub mod Valid
pub mod Routing
pub mod Edits
pub mod Loads
pub mod Inverses
pub mod World
pub mod Answers
pub mod Floors
pub mod Stale
pub mod Letters
pub mod LetterSteps
