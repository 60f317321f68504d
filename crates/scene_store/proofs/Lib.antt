-- What the scene's own calls and its callers' loops need: items that are read, refusals that are not out of memory, the choice at a place, and the conditions of routing.
pub mod Choosing
pub mod Items
pub mod Memory
pub mod Tasks
