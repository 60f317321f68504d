-- Lines by their corner points, and the walks along them.
use Rattle.std.specs.Prelude.{◌≡◌, ◌≤◌, List, [], ◌∷◌, ◌++◌, replicate, length, All}
use Rattle.plane_geom.specs.declared.point.Point.{Point}
use Rattle.plane_geom.specs.declared.point.Dir.{Dir}
use Rattle.plane_geom.specs.Point.{IsStraight, PointIsOnSheet, distance, heading}
use Rattle.walk_model.specs.Walk.{Walk}

-- each segment of the line from the point through the others is straight
abbrev pub AreStraight : Point → List Point → Type 0
AreStraight p [] = Unit {0}
AreStraight p (q ∷ qs) = IsStraight p q × AreStraight q qs

-- the unit steps of the line from the point through the others
abbrev pub steps_through : Point → List Point → List Dir
steps_through p [] = []
steps_through p (q ∷ qs) = replicate (distance p q) (heading p q) ++ steps_through q qs

-- the walk of the line from the point through the others
abbrev pub walk_through : Point → List Point → Walk
walk_through p qs = record { start = p; steps = steps_through p qs }

-- each segment of the line through the corner points is vertical or horizontal
abbrev pub IsStraightLine : List Point → Type 0
IsStraightLine [] = Unit {0}
IsStraightLine (p ∷ qs) = AreStraight p qs

-- points that calls accept as the corners of a line: on the sheet, and at most 4 * 10^7
pub record IsPolyline (points : List Point) : Type 0 where
  pub within : All PointIsOnSheet points
  pub few : length points ≤ 40000000

-- such points, with only vertical and horizontal segments
pub record IsOrthogonal (points : List Point) : Type 0 where
  pub straight : IsStraightLine points
  pub corners : IsPolyline points

-- the unit steps of the line through the corner points
abbrev pub steps_of : List Point → List Dir
steps_of [] = []
steps_of (p ∷ qs) = steps_through p qs

-- the walk goes straight from corner point to corner point; equal neighbours are one corner
abbrev pub Draws : List Point → Walk → Type 0
Draws [] w = ⊥
Draws (p ∷ qs) w = AreStraight p qs × (w ≡ walk_through p qs)
