-- The numbers of a valid scene's edges differ.
use Rattle.std.proofs.Common.{◌≢◌, pos, sym, subst}
use Rattle.std.specs.Prelude.{AllPairs}
use Rattle.scene_parts.proofs.Apart.{numbers_apart}
use Rattle.scene_parts.proofs.parts.Parts.take_edge.Goals as goal

pub take-requires-clause-differ : goal.take-requires-clause-differ
take-requires-clause-differ c = subst (λ s. AllPairs (λ d e. pos d.number ≢ pos e.number) s.edges) (sym c.self.view_is) (numbers_apart c.args.self.now c.requires.valid)
