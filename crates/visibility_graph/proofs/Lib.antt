-- The lemmas on graphs, callees first.
pub mod Parted
pub mod Counts
pub mod Lines
pub mod Crossed
pub mod Filled
pub mod Empty
pub mod KeptList
