-- Rows: the crossings in order, and what is written of their labels.
pub mod Listing
pub mod Lines
pub mod Written
pub mod LeastRows
