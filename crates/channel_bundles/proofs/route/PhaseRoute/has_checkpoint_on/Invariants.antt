-- None of the checkpoints so far lies on the run.
use Rattle.std.proofs.Common.{ℕ, ◌<◌, get_or}
use Rattle.plane_geom.specs.declared.point.Point.{Point}
use Rattle.plane_geom.specs.Floor.{Holds}
use Rattle.segment_order.specs.Run.{line_of_run}
use Rattle.channel_bundles.proofs.route.PhaseRoute.has_checkpoint_on.Given as goal

abbrev pub invariant-loop-p : goal.invariant-loop-p
invariant-loop-p l = (k : ℕ) (d : Point) → k < l.p-index → Holds (line_of_run l.run) (get_or l.self.anchors.via.items k d) → ⊥
