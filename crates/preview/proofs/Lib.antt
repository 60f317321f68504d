-- The lemmas on proposed transactions.
pub mod OneAnswer
pub mod NoMemory
pub mod Calls
pub mod Counts
pub mod Edits
pub mod Joining
