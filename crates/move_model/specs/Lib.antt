-- The definitions on places, moves and ways.
pub mod Ahead
pub mod Places
pub mod Ways
pub mod Boxes
pub mod Corners
pub mod Problems
pub mod Stations
