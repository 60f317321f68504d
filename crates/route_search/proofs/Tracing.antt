-- The first walk is followed step by step, and its corners make the route.
pub mod Tails
pub mod Orders
pub mod Following
pub mod Corners
pub mod Stepping
pub mod Entering
