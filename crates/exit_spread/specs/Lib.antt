-- The definitions on exits that are spread, and on what is known by them.
pub mod Ways
pub mod Offers
pub mod Searching
pub mod Known
pub mod Near
pub mod Propagating
pub mod Taking
