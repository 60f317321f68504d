-- All paths: where they begin, that all are found, and that they have one list.
pub mod Stretches
pub mod Starting
pub mod Gathered
pub mod OneList
