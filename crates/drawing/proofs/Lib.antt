-- The lemmas of drawings.
mod InOrder
mod Judging
mod Passing
mod Places
mod Playing
mod Proposing
pub mod Reconnecting
mod Sources
