-- The definitions that contracts cite.
pub mod Count
pub mod Folder
pub mod Lines
pub mod MemFolder
pub mod MemLines
pub mod MemSink
pub mod Note
pub mod Sink
