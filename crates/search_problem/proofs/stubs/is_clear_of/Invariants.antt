-- The stub meets none of the solids so far.
use Rattle.std.proofs.Common.{◌≢◌, take, All}
use Rattle.plane_geom.specs.Rect.{Meets}
use Rattle.search_problem.proofs.stubs.is_clear_of.Given as goal

abbrev pub invariant-loop-solid : goal.invariant-loop-solid
invariant-loop-solid l =
    All (λ s. s.node ≢ l.choice.node → Meets s.rect l.choice.pin l.choice.port → ⊥) (take l.solid-index l.solids)
