-- The lemmas on exits that are spread, callees first.
pub mod Known
pub mod Sizes
pub mod SmallKnown
pub mod Holding
pub mod Spreading
pub mod Taking
pub mod Searches
