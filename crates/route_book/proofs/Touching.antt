-- Which solids a line meets, and which ones a connector may reach.
pub mod Lengths
pub mod Crossed
pub mod Near
pub mod Solids
pub mod Reached
