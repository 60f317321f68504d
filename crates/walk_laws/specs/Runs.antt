-- The runs of one way.
use Rattle.std.specs.Prelude.{ℕ, ◌+◌, ◌==◌, List, [], ◌∷◌, if◌then◌else◌}
use Rattle.plane_geom.specs.declared.point.Dir.{Dir}
use Rattle.plane_geom.specs.declared.point.Dir.TheVariants.{East, South, West, North}
use Rattle.plane_geom.specs.declared.point.Way.{Way}
use Rattle.plane_geom.specs.declared.point.Way.TheVariants.{Vertical, Horizontal}
use Rattle.walk_model.specs.Cost.{turn}

-- 1 for a direction that runs along lines of the way, 0 for the others
abbrev pub share_of_way : Way → Dir → ℕ
share_of_way Horizontal East = 1
share_of_way Vertical South = 1
share_of_way Horizontal West = 1
share_of_way Vertical North = 1
share_of_way _ _ = 0

-- the number of runs of the way that begin among the steps that follow a step in the direction
abbrev pub runs_of_way_after : Way → Dir → List Dir → ℕ
runs_of_way_after way d [] = 0
runs_of_way_after way d (e ∷ es) = (if turn d e == 0 then 0 else share_of_way way e) + runs_of_way_after way e es

-- the number of runs of the way in a list of steps
abbrev pub runs_of_way : Way → List Dir → ℕ
runs_of_way way [] = 0
runs_of_way way (d ∷ ds) = share_of_way way d + runs_of_way_after way d ds
