-- The remaining edits give the result of all of them.
use Rattle.std.proofs.Common.{◌≡◌, suc}
use Rattle.std.specs.Prelude.{drop}
use Rattle.scene_model.specs.Inverses.{redone}
use Rattle.preview.specs.Previews.{first_refused}
use Rattle.preview.proofs.answer.after_edits.Given as goal

abbrev pub invariant-loop-index : goal.invariant-loop-index
invariant-loop-index l = record {
  refused : first_refused 1 l.edits l.scene ≡ first_refused (suc l.index) (drop l.index l.edits) l.txn.working;
  left : redone l.edits l.scene ≡ redone (drop l.index l.edits) l.txn.working;
}
