-- The definitions that contracts cite.
pub mod Values
pub mod Classes
pub mod Faults
pub mod Settings
pub mod Pins
pub mod Nodes
pub mod Checkpoints
pub mod Edges
pub mod Lines
pub mod Scene
pub mod Laws
