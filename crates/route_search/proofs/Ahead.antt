-- What lies ahead of a place: what is known of it, and the entries where walks begin.
pub mod Knowing
pub mod Starting
pub mod LeastEntries
