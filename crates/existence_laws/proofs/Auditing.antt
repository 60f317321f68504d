-- Audits: kept lines and crossings of a floor, the places on it, and the rules.
pub mod Floors
pub mod Places
pub mod Audits
