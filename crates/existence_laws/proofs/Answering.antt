-- What there is for a scene's connectors: answers, stale connectors and verdicts.
pub mod Answered
pub mod Stale
pub mod Verdicts
pub mod Previewed
