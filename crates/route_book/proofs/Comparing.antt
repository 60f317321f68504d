-- Two scenes compared.
pub mod Opened
pub mod Picks
pub mod Same
pub mod Looks
