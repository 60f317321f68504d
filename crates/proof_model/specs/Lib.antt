-- Places on the crossings of a floor, labels of them, and when they prove a claim.
pub mod Crossings
pub mod Places
pub mod Labels
pub mod Rules
pub mod Claims
pub mod Scenes
pub mod LeastLabels
pub mod Next
