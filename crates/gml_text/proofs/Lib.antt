-- The lemmas of this crate.
pub mod Views
pub mod ByteLemmas
pub mod Numbers
pub mod Accepting
pub mod Spelling
pub mod Depths
pub mod Parsing
pub mod Standing
pub mod Printing
pub mod Answering
