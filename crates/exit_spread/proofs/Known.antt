-- What is known along a first walk by the exits that lines keep.
pub mod ByEndings
pub mod AheadOrder
pub mod Numbers
pub mod Lines
pub mod Attained
pub mod Mattering
pub mod Resting
pub mod Counting
pub mod Keeping
pub mod Beginning
pub mod Ending
pub mod Offering
pub mod Places
