-- A line has one verdict.
pub mod Stubs
pub mod Fitting
pub mod Verdicts
pub mod Judging
