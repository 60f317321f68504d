-- The solver's network: the links of a bundle, its forces and its mirror image.
pub mod LinkLists
pub mod Listing
pub mod Forces
pub mod Mirrored
pub mod Upright
pub mod Frames
pub mod Balancing
