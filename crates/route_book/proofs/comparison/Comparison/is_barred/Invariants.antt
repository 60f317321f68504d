-- The line meets no solid so far.
use Rattle.std.proofs.Common.{take, All}
use Rattle.scene_model.specs.Stale.{LineMeets}
use Rattle.route_book.proofs.comparison.Comparison.is_barred.Given as goal

abbrev pub invariant-loop-solid : goal.invariant-loop-solid
invariant-loop-solid l = All (λ s. LineMeets s.rect l.points → ⊥) (take l.solid-index l.solid-items)
