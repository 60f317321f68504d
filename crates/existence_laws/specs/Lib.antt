-- What exists, and what is read.
pub mod Answers
pub mod Readings
pub mod Audits
pub mod Solutions
pub mod Previews
pub mod Arguments
pub mod Proposals
pub mod Diagrams
pub mod Paths
pub mod Nudged
