-- What edits, loads and commands leave: valid scenes.
pub mod Entries
pub mod Refusals
pub mod Nodes
pub mod Edges
pub mod NodeEdits
pub mod EdgeEdits
pub mod Validity
pub mod Loads
pub mod Worlds
