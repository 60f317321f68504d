-- What is written of proposed transactions.
pub mod Blocks
pub mod Proposes
pub mod Reading
