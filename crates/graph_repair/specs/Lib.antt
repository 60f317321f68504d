-- The model of a repair, the floors between which it leads, and its number of writes.
pub mod Change
pub mod Listed
pub mod Hull
pub mod Take
