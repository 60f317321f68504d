-- Light fractions: in lowest terms and not too large, and places of nodes as such.
pub mod Fractions
pub mod LowestTerms
pub mod Spots
