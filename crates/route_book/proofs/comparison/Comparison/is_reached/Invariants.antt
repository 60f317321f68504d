-- No solid so far is reached.
use Rattle.std.proofs.Common.{take, All}
use Rattle.scene_model.specs.Stale.{IsWithinReach}
use Rattle.route_book.proofs.comparison.Comparison.is_reached.Given as goal

abbrev pub invariant-loop-solid : goal.invariant-loop-solid
invariant-loop-solid l = All (λ s. IsWithinReach l.self.old.now l.was s.rect l.cost → ⊥) (take l.solid-index l.solid-items)
