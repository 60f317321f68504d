-- Floors made of plain numbers, and relations between lines of an arena.
pub mod Small
pub mod Lines
