-- What a search for least labels keeps true, and the rows that it writes.
pub mod Labels
pub mod Tables
pub mod Scopes
pub mod Search
pub mod Spots
pub mod Rows
pub mod Provers
