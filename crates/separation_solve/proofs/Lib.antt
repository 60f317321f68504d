-- The proofs, in the order of docs/PROOFS.md, after those of the laws, which are re-exported.
pub use Rattle.separation_model.proofs.Optimum
pub use Rattle.separation_model.proofs.Gaps
pub use Rattle.separation_model.proofs.Rounding
mod Lists
mod LightFractions
mod Networks
mod Starting
mod Searches
mod Blocks
mod Ending
