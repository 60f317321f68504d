-- A line corner by corner: its walk, its bends, its cost and its shape.
pub mod Scan
pub mod Bends
pub mod Appending
pub mod Lengths
pub mod Costs
pub mod Shapes
