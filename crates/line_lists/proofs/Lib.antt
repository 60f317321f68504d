-- Lemmas on the stops of a line, on the walk along it, on sorting, and on the lists, callees first.
pub mod OnLine
pub mod Walking
pub mod Sorting
pub mod Growing
pub mod Finished
pub mod Later
