-- The steps of a walk: turns, stretches, shifted runs, and steps that are clear.
pub mod Turns
pub mod Fronts
pub mod Straight
pub mod Shift
pub mod Flanks
pub mod Clear
