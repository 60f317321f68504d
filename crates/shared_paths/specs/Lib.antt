-- The definitions of paths that routes share, and of crossings.
pub mod Pairs
pub mod Paths
pub mod Laws
pub mod Listed
pub mod Crossings
pub mod Views
pub mod Starts
pub mod Columns
