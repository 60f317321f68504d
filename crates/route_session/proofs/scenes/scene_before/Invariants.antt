-- The inverses after the place are applied.
use Rattle.std.proofs.Common.{◌≡◌, drop}
use Rattle.scene_model.specs.Inverses.{taken_back}
use Rattle.route_session.proofs.scenes.scene_before.Given as goal

abbrev pub invariant-loop-place : goal.invariant-loop-place
invariant-loop-place l = l.before ≡ taken_back (drop l.place l.back) l.fn.scene
