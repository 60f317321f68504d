-- The lemmas on audits, callees first.
pub mod Rising
pub mod Indexing
pub mod RowsIn
pub mod EndsByList
pub mod MovesByRow
pub mod Audited
