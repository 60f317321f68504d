-- The lemmas on places and ways, callees first.
pub mod Moving
pub mod GoingOn
pub mod Stopping
pub mod Bounds
pub mod Corners
pub mod Cases
