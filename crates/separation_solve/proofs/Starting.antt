-- The first places: where the solver begins.
pub mod Pressing
pub mod StartPlaces
