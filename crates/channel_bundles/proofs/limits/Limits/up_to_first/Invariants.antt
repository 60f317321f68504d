-- No wall from the first one on that was tried shares more than a point with the run.
use Rattle.std.proofs.Common.{ℕ, ◌<◌, ◌≤◌, get_or}
use Rattle.channel_bundles.specs.declared.walls.Wall.{Wall}
use Rattle.channel_bundles.proofs.Facing.{Shares}
use Rattle.channel_bundles.proofs.limits.Limits.up_to_first.Given as goal

abbrev pub invariant-loop-next : goal.invariant-loop-next
invariant-loop-next l = (k : ℕ) (d : Wall) → l.first ≤ k → k < l.next → Shares l.run (get_or l.walls k d) → ⊥
