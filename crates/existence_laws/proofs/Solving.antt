-- Solutions of bundles: flows along tight links, denominators and multipliers.
pub mod Flows
pub mod Links
pub mod Pulled
pub mod Classes
pub mod Multipliers
pub mod Solved
