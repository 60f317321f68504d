-- The contents of the index and the results of its calls, and the tree that it is.
pub mod Order
pub mod Ends
pub mod Height
pub mod Tree
pub mod Index
