-- The lines of outputs.
pub mod Lines
pub mod Files
pub mod Faults
pub mod Findings
pub mod Routed
pub mod Refusals
pub mod Replies
pub mod Previews
pub mod Shared
pub mod Audits
pub mod Status
pub mod Outcome
