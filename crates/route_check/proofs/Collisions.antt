-- The first solid that a line meets and may not meet.
pub mod Places
pub mod Inside
pub mod Closed
pub mod Meetings
pub mod Hits
