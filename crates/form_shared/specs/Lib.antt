-- What is written of a scene's shared paths and crossings.
pub mod Shares
