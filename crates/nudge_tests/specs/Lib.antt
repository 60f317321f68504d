-- Bundles made of plain numbers, and the conditions that are checked before bundles are computed.
pub mod Small
pub mod Phases
