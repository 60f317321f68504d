-- The model of an arena, in terms of its lists.
pub mod Seen
pub mod ArenaLemmas
pub mod ArenaLaws
