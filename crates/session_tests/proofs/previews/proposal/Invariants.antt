-- The edits so far may be proposed.
use Rattle.std.proofs.Common.{◌≡◌, All, length}
use Rattle.scene_model.specs.Edits.{IsDirected}
use Rattle.session_tests.proofs.previews.proposal.Given as goal

abbrev pub invariant-loop-ask : goal.invariant-loop-ask
invariant-loop-ask l = record {
  directed : All IsDirected l.edits.items;
  len : length l.edits.items ≡ l.ask-index;
}
