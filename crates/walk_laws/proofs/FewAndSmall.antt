-- How many runs a first walk has, and how large it is.
pub mod CountedRuns
pub mod OnLines
pub mod FewRuns
pub mod LineEnds
pub mod SmallWalks
