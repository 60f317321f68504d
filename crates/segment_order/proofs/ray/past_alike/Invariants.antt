-- The order of what is left is that of the rays, and fewer runs are left.
use Rattle.std.proofs.Common.{◌≡◌, length}
use Rattle.segment_order.specs.declared.side.Side.{Side}
use Rattle.segment_order.specs.Ray.{compare_abreast}
use Rattle.segment_order.proofs.ray.past_alike.Given as goal

abbrev pub invariant-loop-next : goal.invariant-loop-next
invariant-loop-next l = (near : Side) → compare_abreast l.onward near l.initial.at.heading l.initial.at.reach l.initial.at.a.now l.initial.at.b.now
    ≡ compare_abreast l.onward near l.at.heading l.at.reach l.at.a.now l.at.b.now

abbrev pub decreases-loop-next : goal.decreases-loop-next
decreases-loop-next l = length l.at.a.now
