-- The lemmas on walks, callees first.
pub mod CornerByCorner
pub mod Checkpoints
pub mod Ranking
pub mod Cases
pub mod TaskFloors
