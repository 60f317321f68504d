-- The model of a graph, which lines meet, and the conditions for putting lines into an arena.
pub mod Drawing
pub mod Meeting
pub mod Fill
