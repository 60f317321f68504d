-- Both phases, from raw routes to written lines.
pub mod RawRuns
pub mod NudgedLegal
pub mod OneNudged
