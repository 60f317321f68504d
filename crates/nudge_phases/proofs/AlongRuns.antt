-- The lemmas on walks along runs, callees first.
pub mod Ends
pub mod StepsAlong
pub mod ToTheWalk
pub mod FromTheWalk
pub mod Cases
