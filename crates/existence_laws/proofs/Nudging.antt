-- Nudging: limits and order of runs, their classes, both phases, and the lines.
pub mod Limits
pub mod Standings
pub mod Classes
pub mod Phases
pub mod Nudged
