-- Where runs are held.
pub mod Runs
