-- Rays: turns and hands, where a ray goes on, and on which hand it keeps.
pub mod Orders
pub mod Dirs
pub mod Entries
pub mod Leads
pub mod Keeps
