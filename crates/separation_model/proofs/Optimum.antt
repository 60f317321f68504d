-- Weak duality, one, some: multipliers show positions to be least, there is one list of them at most, and there is one.
pub mod Positions
pub mod Duality
pub mod Certificates
pub mod Middle
pub mod Projection
pub mod Nearest
pub mod Existence
