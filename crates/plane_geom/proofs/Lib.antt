-- The lemmas on the plane, callees first.
pub mod Signed
pub mod Headings
pub mod Places
pub mod Held
pub mod Steps
pub mod Ways
pub mod Pieces
pub mod LongestPiece
pub mod KeptLines
pub mod Order
