-- What routing sees of a scene.
pub mod OneList
pub mod Floors
pub mod Fresh
