-- The lemmas of this crate.
pub mod Places
pub mod PairLists
pub mod Walks
pub mod LinesPut
pub mod KeptParts
pub mod Numerals
pub mod Labelling
pub mod Fitting
pub mod Printable
pub mod OriginsKept
pub mod LinesOf
