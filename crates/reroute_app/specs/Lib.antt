-- The outcome of the arguments and the files, subcommand by subcommand.
pub mod Hint
pub mod Reads
pub mod Diagram
pub mod Run
pub mod Causes
pub mod Lines
pub mod Exit
pub mod Complete
pub mod View
