-- The definitions on what touches lines.
pub mod Extents
pub mod Sides
pub mod Touches
pub mod Rows
