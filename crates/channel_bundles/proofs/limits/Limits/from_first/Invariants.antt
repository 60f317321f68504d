-- No wall back from the first one that was tried shares more than a point with the run.
use Rattle.std.proofs.Common.{ℕ, ◌<◌, ◌≤◌, get_or}
use Rattle.channel_bundles.specs.declared.walls.Wall.{Wall}
use Rattle.channel_bundles.proofs.Facing.{Shares}
use Rattle.channel_bundles.proofs.limits.Limits.from_first.Given as goal

abbrev pub invariant-loop-next : goal.invariant-loop-next
invariant-loop-next l = (l.next ≤ l.first) × ((k : ℕ) (d : Wall) → l.next ≤ k → k < l.first → Shares l.run (get_or l.walls k d) → ⊥)

abbrev pub decreases-loop-next : goal.decreases-loop-next
decreases-loop-next l = l.next
