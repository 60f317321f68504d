-- The definitions of transactions, of histories and of the calls of a session.
pub mod Txn
pub mod History
pub mod State
pub mod Calls
