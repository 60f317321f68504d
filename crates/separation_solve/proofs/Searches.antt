-- Balancing: searches for a way on which flow can go, and what is sent along it.
pub mod Leads
pub mod Reaches
pub mod Extending
pub mod Searching
pub mod Sending
pub mod Pushing
pub mod Sweeping
