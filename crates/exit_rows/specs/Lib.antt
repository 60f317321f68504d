-- The definitions on exits and on what lines keep of them.
pub mod Exits
pub mod Rows
pub mod Weights
