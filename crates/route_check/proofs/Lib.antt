-- The lemmas on the verdict, callees first.
pub mod Segments
pub mod Collisions
pub mod OneVerdict
