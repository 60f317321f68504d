-- What the parts of an audit say.
pub mod Index
pub mod Ends
pub mod Moves
pub mod Rows
pub mod Audits
