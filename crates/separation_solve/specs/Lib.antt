-- Bundles, gaps, least positions and certificates (re-exported from below), and the definitions of the solver's parts.
pub use Rattle.separation_model.specs.Sum
pub use Rattle.separation_model.specs.Apart
pub use Rattle.separation_model.specs.Bundle
pub use Rattle.separation_model.specs.Gap
pub use Rattle.separation_model.specs.Least
pub use Rattle.separation_model.specs.Certified
pub use Rattle.separation_model.specs.Rounded
pub mod Reduced
pub mod Fraction
pub mod Network
pub mod Block
pub mod Reach
pub mod Push
pub mod Sweep
pub mod Start
