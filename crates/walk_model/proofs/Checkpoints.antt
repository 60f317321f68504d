-- Which checkpoints a line passes.
pub mod Passing
pub mod Stretches
pub mod Along
pub mod Segments
