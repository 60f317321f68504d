-- The edits before the place are done, and none of the others is refused.
use Rattle.std.proofs.Common.{◌≡◌, drop}
use Rattle.scene_model.specs.Inverses.{redone}
use Rattle.route_session.specs.Upheld.{AreFree}
use Rattle.route_session.proofs.scenes.scene_after.Given as goal

abbrev pub invariant-loop-edit : goal.invariant-loop-edit
invariant-loop-edit l = record {
  same : redone (drop l.edit-index l.forth) l.after ≡ redone l.forth l.fn.scene;
  free : AreFree (drop l.edit-index l.forth) l.after;
}
