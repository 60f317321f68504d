-- None of the checkpoints so far is on the whole line.
use Rattle.std.proofs.Common.{◌≡◌, take, All}
use Rattle.plane_geom.specs.Along.{across}
use Rattle.exit_spread.proofs.held.has_checkpoint.Given as goal

abbrev pub invariant-loop-checkpoint : goal.invariant-loop-checkpoint
invariant-loop-checkpoint l = All (λ c. across l.way c ≡ l.at → ⊥) (take l.checkpoint-index l.via)
