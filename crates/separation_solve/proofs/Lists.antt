-- Lists: facts of lists, and of values that may not be there.
pub mod Optional
pub mod Turning
pub mod PartSums
