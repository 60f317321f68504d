-- The definitions that the laws of first walks cite.
pub mod Lines
pub mod Runs
pub mod Sides
pub mod Shifts
