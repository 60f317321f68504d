-- The next crossing in a direction, and how large what is added can be.
pub mod TheMoves
pub mod Directions
