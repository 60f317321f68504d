-- A line segment by segment: its corners, its runs, and the cheapest choices that fit them.
pub mod Corners
pub mod Slants
pub mod Runs
pub mod Cheapest
pub mod Costs
