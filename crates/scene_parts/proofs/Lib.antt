-- The lemmas of the scene's lists and of the maps that they stand in.
pub mod Apart
pub mod Replaced
pub mod Keys
pub mod Places
pub mod Refused
