-- Sizes in `verify`: those of its numbers, and the conditions that it tests one after another.
pub mod Apart
pub mod Conditions
pub mod Accepted
