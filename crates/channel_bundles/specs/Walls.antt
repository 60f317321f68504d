-- The sides of solids that runs of one way meet when they move. No public clause cites this module.
use Rattle.std.specs.Prelude.{ℤ, ◌≤ℤ◌, List, map, All, AllPairs, IsPermutation}
use Rattle.plane_geom.specs.declared.point.Dir.{Dir}
use Rattle.plane_geom.specs.declared.point.Dir.TheVariants.{East, South, West, North}
use Rattle.plane_geom.specs.declared.point.Way.{Way}
use Rattle.plane_geom.specs.declared.point.Way.TheVariants.{Vertical, Horizontal}
use Rattle.plane_geom.specs.declared.rect.Solid.{Solid}
use Rattle.plane_geom.specs.Floor.{IsSolid}
use Rattle.plane_geom.specs.Rect.{Overlaps}
use Rattle.segment_order.specs.declared.run.Run.{Run}
use Rattle.channel_bundles.specs.declared.walls.Wall.{Wall}
use Rattle.channel_bundles.specs.declared.walls.Walls.{Walls}

-- the side from which the solid lies in the direction
abbrev pub wall_of : Dir → Solid → Wall
wall_of East s = record { at = s.rect.left; lo = s.rect.top; hi = s.rect.bottom }
wall_of South s = record { at = s.rect.top; lo = s.rect.left; hi = s.rect.right }
wall_of West s = record { at = s.rect.right; lo = s.rect.top; hi = s.rect.bottom }
wall_of North s = record { at = s.rect.bottom; lo = s.rect.left; hi = s.rect.right }

-- the direction of a run's way to greater coordinates
abbrev pub greater : Way → Dir
greater Vertical = East
greater Horizontal = South

-- that to lesser ones
abbrev pub lesser : Way → Dir
lesser Vertical = West
lesser Horizontal = North

-- the walls are the sides from which the solids lie in the direction, by rising coordinate
pub record AreWallsTo (dir : Dir) (solids : List Solid) (walls : List Wall) : Type 0 where
  pub all : IsPermutation (map (wall_of dir) solids) walls
  pub rise : AllPairs (λ v w. v.at ≤ℤ w.at) walls

-- the walls are those of their solids for runs of the way
pub record AreWalls (way : Way) (walls : Walls) : Type 0 where
  pub solids : All IsSolid walls.solids.now
  pub onward : AreWallsTo (greater way) walls.solids.now walls.onward.items
  pub backward : AreWallsTo (lesser way) walls.solids.now walls.backward.items

-- the run, on its way to the coordinate, does not pass the wall, if this stands ahead on the way to greater ones
abbrev pub StopsBefore : Run → ℤ → Wall → Type 0
StopsBefore run z wall = run.at ≤ℤ wall.at → Overlaps wall.lo wall.hi run.lo run.hi → z ≤ℤ wall.at

-- the same on the way to lesser ones
abbrev pub StopsBehind : Run → ℤ → Wall → Type 0
StopsBehind run z wall = wall.at ≤ℤ run.at → Overlaps wall.lo wall.hi run.lo run.hi → wall.at ≤ℤ z
