-- Crossings in the lists of their two lines.
pub mod Nearest
pub mod Linked
pub mod Joined
pub mod Relinked
pub mod Kept
pub mod Put
pub mod Walk
