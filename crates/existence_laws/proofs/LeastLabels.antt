-- Least labels: to which places walks come, at which least cost, and the rows of these.
pub mod Reaching
pub mod Labelling
