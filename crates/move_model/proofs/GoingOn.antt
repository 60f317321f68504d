-- From a place on its way a first walk goes on as the first of all ways from there.
pub mod Stretching
pub mod Joined
pub mod Rivals
pub mod Rests
