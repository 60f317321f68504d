-- The lemmas on crossings in two lists, callees first.
pub mod Counting
pub mod Linking
pub mod Arenas
pub mod LineOrder
pub mod Fixtures
