-- The definitions of proposed transactions.
pub mod Previews
pub mod Commits
pub mod Edited
pub mod Pieces
