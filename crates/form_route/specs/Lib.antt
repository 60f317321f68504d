-- The output of a replay.
pub mod Report
pub mod Routes
pub mod Diagram
pub mod Written
