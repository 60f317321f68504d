-- The lemmas of this crate.
pub mod Lists
pub mod Steps
pub mod PinsRead
pub mod NodesRead
pub mod EdgesRead
pub mod Counts
pub mod SettingsRead
pub mod LawsOfReading
