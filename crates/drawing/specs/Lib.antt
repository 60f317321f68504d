-- The definitions of drawings.
pub mod Changes
pub mod Checks
pub mod Drawing
pub mod Labelled
pub mod Lines
pub mod Opening
pub mod Played
pub mod Reconnect
