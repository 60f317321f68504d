-- The definitions of a phase: its routes, how far their runs may move, and their bundles.
pub mod Route
pub mod Limits
pub mod Walls
pub mod Links
pub mod Classes
pub mod Groups
pub mod Kept
pub mod Bundles
pub mod Listed
pub mod Few
pub mod Shares
pub mod Leaders
pub mod Placed
