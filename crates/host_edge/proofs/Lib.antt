-- The lemmas of this crate.
pub mod FolderLemmas
pub mod LineLemmas
pub mod SinkLemmas
