-- Along a path: from one pair to the next, on which side, and how far.
pub mod Steps
pub mod Sides
pub mod Ahead
pub mod Begins
