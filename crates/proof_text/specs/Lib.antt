-- The definitions of the text of proofs, and of how it is read.
pub mod Lines
pub mod Text
pub mod Fronts
pub mod Values
pub mod Forms
pub mod Reading
