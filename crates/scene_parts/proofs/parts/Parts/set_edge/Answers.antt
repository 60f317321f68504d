-- The numbers of a valid scene's edges differ.
use Rattle.std.proofs.Common.{◌≢◌, pos, sym, subst}
use Rattle.std.specs.Prelude.{AllPairs}
use Rattle.scene_parts.proofs.Apart.{numbers_apart}
use Rattle.scene_parts.proofs.parts.Parts.set_edge.Goals as goal

pub set-requires-clause-differ : goal.set-requires-clause-differ
set-requires-clause-differ c = subst (λ s. AllPairs (λ d e. pos d.number ≢ pos e.number) s.edges) (sym c.self.view_is) (numbers_apart c.args.self.now c.requires.valid)
