-- The next crossing of a floor in a direction.
use Rattle.std.specs.Prelude.{ℕ, ◌≡◌, ◌<◌, ◌≤◌}
use Rattle.plane_geom.specs.declared.point.Point.{Point}
use Rattle.plane_geom.specs.declared.point.Dir.{Dir}
use Rattle.plane_geom.specs.declared.floor.Line.{Line}
use Rattle.plane_geom.specs.declared.floor.Floor.{Floor}
use Rattle.plane_geom.specs.Along.{way_of}
use Rattle.plane_geom.specs.Floor.{Holds, IsCrossing, IsKept}
use Rattle.plane_geom.specs.Point.{forward}

-- n steps straight on lead from p to q, along one kept line that holds both
pub record LiesAhead (floor : Floor) (d : Dir) (p : Point) (n : ℕ) (q : Point) : Type 0 where
  pub line : Line
  pub kept : IsKept floor line
  pub way : line.way ≡ way_of d
  pub begin : Holds line p
  pub end : Holds line q
  pub some : 0 < n
  pub straight : q ≡ forward d n p

-- q is the crossing nearest to p in the direction, n steps on
pub record IsNextCrossing (floor : Floor) (d : Dir) (p : Point) (n : ℕ) (q : Point) : Type 0 where
  pub crossing : IsCrossing floor q
  pub ahead : LiesAhead floor d p n q
  pub nearest : (m : ℕ) (r : Point) → IsCrossing floor r → LiesAhead floor d p m r → n ≤ m
