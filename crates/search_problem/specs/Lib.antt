-- The definitions on the problem of a search.
pub mod Stubs
pub mod Ends
pub mod Origins
pub mod Bounds
pub mod Problems
