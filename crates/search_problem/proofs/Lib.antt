-- The lemmas on problems and queues, callees first.
pub mod Origins
pub mod Stages
pub mod BoundsGrow
pub mod StubLengths
pub mod Sorting
pub mod SameSolids
pub mod Headings
pub mod Choices
pub mod Least
pub mod Queues
