-- Answers by the numbers of their connectors: those that were found and those that are kept.
pub mod Found
pub mod Taken
pub mod Ordered
pub mod Connectors
pub mod Searched
pub mod Merged
