-- Searches that run side by side.
pub mod Pieces
pub mod Routes
