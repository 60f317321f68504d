-- Fewer of the list are left at each call.
use Rattle.std.specs.Prelude.{length}
use Rattle.scene_parts.proofs.loads.+refusal_of_via.Given as goal

abbrev pub decreases-refusal_of_via : goal.decreases-refusal_of_via
decreases-refusal_of_via l = length l.points.now
