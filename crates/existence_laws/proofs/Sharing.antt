-- Shared paths: their starts are decided, and each leads as far as it goes.
pub mod Starts
pub mod Shared
