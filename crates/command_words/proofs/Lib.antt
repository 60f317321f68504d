-- Lemmas on the arguments and on what clap makes of them.
pub mod Built
pub mod Commands
pub mod Looks
pub mod Numbers
pub mod Rows
pub mod Turns
pub mod Walks
pub mod Shown
