-- The sides so far are those of the solids so far.
use Rattle.std.proofs.Common.{◌≡◌, map, take}
use Rattle.plane_geom.specs.declared.rect.Solid.{Solid}
use Rattle.side_touches.specs.Sides.{side_of}
use Rattle.side_touches.proofs.side.sorted.Given as goal

abbrev pub invariant-loop-solid : goal.invariant-loop-solid
invariant-loop-solid l = l.sides.items ≡ map (λ (s : Solid). side_of l.side s.rect) (take l.solid-index l.solids)
