-- The limits are those at which the checkpoints so far are reached.
use Rattle.std.proofs.Common.{◌↔◌, ℕ, ◌<◌, ℤ, get_or}
use Rattle.plane_geom.specs.declared.point.Point.{Point}
use Rattle.plane_geom.specs.Along.{across}
use Rattle.plane_geom.specs.Floor.{Holds}
use Rattle.segment_order.specs.Run.{line_of_run}
use Rattle.channel_bundles.specs.Limits.{IsFromTo, IsReached}
use Rattle.channel_bundles.proofs.limits.Limits.reached_checkpoints.Given as goal

abbrev pub invariant-loop-p : goal.invariant-loop-p
invariant-loop-p l = (z : ℤ) → IsFromTo l.limits.low l.limits.high z
    ↔ (IsFromTo l.initial.limits.low l.initial.limits.high z
    × ((k : ℕ) (d : Point) → k < l.p-index → Holds (line_of_run l.run) (get_or l.via k d) → IsReached l.dir (across l.way (get_or l.via k d)) z))
