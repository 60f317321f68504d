-- Straight legs, and the stations at which ways stop.
pub mod StraightLegs
pub mod Stations
pub mod HeldLegs
pub mod WayRuns
pub mod RunLines
pub mod Stops
pub mod KnownByStations
