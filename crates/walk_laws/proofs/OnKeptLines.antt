-- Between its ports a first walk lies in kept lines.
pub mod KeptSteps
pub mod Lines
pub mod OneRun
pub mod Numbers
pub mod FirstWalks
pub mod OnSheet
pub mod ShiftedRuns
