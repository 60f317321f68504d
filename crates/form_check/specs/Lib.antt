-- What a check of the lines of a diagram finds and writes.
pub mod Sizes
pub mod Checks
