-- What is generated from a seed, and the result of its commands.
pub mod Draws
pub mod Made
pub mod Summary
pub mod Sums
pub mod Makes
