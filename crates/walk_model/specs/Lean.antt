-- The lean of a walk: the sum of its run coordinates.
use Rattle.std.specs.Prelude.{◌==◌, ℤ, pos, ◌+ℤ◌, List, [], ◌∷◌, if◌then◌else◌}
use Rattle.plane_geom.specs.declared.point.Point.{Point}
use Rattle.plane_geom.specs.declared.point.Dir.{Dir}
use Rattle.plane_geom.specs.Along.{way_of, across}
use Rattle.plane_geom.specs.Point.{forward}
use Rattle.walk_model.specs.Cost.{turn}
use Rattle.walk_model.specs.Line.{steps_through}

-- the sum of run coordinates of the steps from the point that follow a step in the direction
abbrev pub lean_after : Dir → Point → List Dir → ℤ
lean_after d p [] = pos 0
lean_after d p (e ∷ es) = (if turn d e == 0 then pos 0 else across (way_of e) p) +ℤ lean_after e (forward e 1 p) es

-- the sum of run coordinates (lean) of the steps from the point: of each run its coordinate across, so it is lower for a walk further North and West
abbrev pub lean : Point → List Dir → ℤ
lean p [] = pos 0
lean p (d ∷ ds) = across (way_of d) p +ℤ lean_after d (forward d 1 p) ds

-- the sum of run coordinates of the line through the corner points
abbrev pub line_lean : List Point → ℤ
line_lean [] = pos 0
line_lean (p ∷ qs) = lean p (steps_through p qs)
