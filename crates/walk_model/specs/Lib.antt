-- The definitions on walks.
pub mod Walk
pub mod Line
pub mod Cost
pub mod Choice
pub mod Legal
pub mod Stretch
pub mod Lean
pub mod Order
pub mod Answers
pub mod OneFirst
pub mod Floors
pub mod RemainingSteps
