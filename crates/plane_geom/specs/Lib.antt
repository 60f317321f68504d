-- The definitions on the plane.
pub mod Point
pub mod Along
pub mod Rect
pub mod Floor
pub mod Order
pub mod Axes
