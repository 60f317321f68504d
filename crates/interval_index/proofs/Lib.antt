-- The lemmas on spans in a tree, callees first.
pub mod Everywhere
pub mod Before
pub mod Placed
pub mod GreatestEnds
pub mod Heights
pub mod AtNode
pub mod Listed
pub mod Free
pub mod Keyed
