-- The lemmas on the search for a certificate, callees first.
pub mod Written
pub mod Offers
pub mod Searching
pub mod RowsInOrder
pub mod WholeScenes
