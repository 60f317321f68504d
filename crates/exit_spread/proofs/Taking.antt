-- How exits are offered, and kept by their lines.
pub mod Offered
pub mod Stubs
pub mod Numbered
pub mod Keeping
