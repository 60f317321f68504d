-- The greatest reach so far.
use Rattle.std.proofs.Common.{◌≤ℤ◌, IsSomeAnd, take, All}
use Rattle.plane_geom.specs.Along.{reach}
use Rattle.exit_spread.specs.Propagating.{LiesUpTo}
use Rattle.exit_spread.proofs.held.last_checkpoint.Given as goal

abbrev pub invariant-loop-checkpoint : goal.invariant-loop-checkpoint
invariant-loop-checkpoint l = All (λ c. LiesUpTo c l.heading l.at → IsSomeAnd l.last (λ z. reach l.heading c ≤ℤ z)) (take l.checkpoint-index l.via)
