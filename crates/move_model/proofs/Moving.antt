-- Moves from crossing to crossing: ways are legal walks, and a first walk goes along one.
pub mod Stages
pub mod Crossings
pub mod Nearest
pub mod Moves
pub mod Stubs
pub mod LegalWays
pub mod FirstWays
