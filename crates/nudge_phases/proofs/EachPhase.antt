-- What a phase owes each route that it gives, and what it keeps of it.
pub mod Solvable
pub mod FromPhase
pub mod PhaseKept
pub mod AfterX
