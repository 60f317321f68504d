-- The definitions that contracts cite.
pub mod Changes
pub mod Labels
pub mod Forms
pub mod Nodes
pub mod Edges
pub mod Tree
pub mod Origins
pub mod Diagram
