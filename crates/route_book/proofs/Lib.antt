-- The lemmas on books, callees first.
pub mod Staying
pub mod Answering
pub mod Exchanging
pub mod Touching
pub mod Comparing
