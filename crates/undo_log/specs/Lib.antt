-- The definitions of the history.
pub mod Log
pub mod Lending
