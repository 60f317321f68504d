-- Scenes: their connectors one after another, and the text of their proofs.
pub mod Connectors
pub mod Writable
