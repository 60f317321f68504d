-- Latest places, and a widest gap.
pub mod Bounds
pub mod Widest
pub mod WidestExists
