-- Arithmetic: sums, products and the order of whole numbers, and lists put in order. Nothing here depends on bundles.
pub mod Ring
pub mod Order
pub mod Sums
pub mod Exchange
pub mod Sorting
pub mod Bits
