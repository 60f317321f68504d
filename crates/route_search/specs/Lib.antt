-- What a finder keeps, what it knows at places, and how the first walk is followed.
pub mod Matching
pub mod Known
pub mod Starting
pub mod Following
