-- The lemmas of transactions, of histories and of the calls of a session.
pub mod Begins
pub mod Turning
pub mod Called
