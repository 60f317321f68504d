-- Lines and walks: which rules they keep.
pub mod Lines
pub mod Walks
