-- The definitions of the exports to C.
pub mod Checks
pub mod Codes
pub mod Edits
pub mod Files
pub mod Labels
pub mod Lines
pub mod Open
pub mod Owned
pub mod Scenes
