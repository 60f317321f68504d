-- The lemmas on exits and on what lines keep of them, callees first.
pub mod Orders
pub mod Least
pub mod Stops
pub mod Late
pub mod Weights
pub mod Written
pub mod Lighter
