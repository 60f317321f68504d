-- The definitions of both phases of nudging, of what they preserve, and of the lines of a scene.
pub mod LegalRuns
pub mod Ready
pub mod Alike
pub mod Moved
pub mod Phase
pub mod Apart
pub mod Lines
pub mod Rising
pub mod Steps
pub mod Raw
pub mod Nudged
