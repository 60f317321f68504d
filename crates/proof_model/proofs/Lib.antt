-- The lemmas on proofs, callees first.
pub mod Bridge
pub mod Least
pub mod Verdicts
pub mod Lex
pub mod LeastLabels
pub mod OneList
pub mod Nexts
