-- Fewer of the list are left at each call.
use Rattle.std.specs.Prelude.{length}
use Rattle.scene_parts.proofs.loads.+refusal_of_pins.Given as goal

abbrev pub decreases-refusal_of_pins : goal.decreases-refusal_of_pins
decreases-refusal_of_pins l = length l.pins.now
