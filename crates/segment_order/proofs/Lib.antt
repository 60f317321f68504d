-- The lemmas on runs and their order, callees first.
pub mod Headings
pub mod Runs
pub mod HeldPoints
pub mod RayOrder
pub mod OneOrder
pub mod Stops
