-- Which answers are kept, the model of the changes of a book, and the meaning of the parts of a comparison.
pub mod Exchange
pub mod Kept
pub mod Search
pub mod Differ
pub mod Keeping
pub mod Solids
pub mod Shapes
pub mod Reach
