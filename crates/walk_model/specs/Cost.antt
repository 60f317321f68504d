-- Bends, runs and the cost of a list of steps.
use Rattle.std.specs.Prelude.{ℕ, ◌+◌, ◌*◌, ◌==◌, List, [], ◌∷◌, length, if◌then◌else◌}
use Rattle.plane_geom.specs.declared.point.Dir.{Dir}
use Rattle.plane_geom.specs.declared.point.Dir.TheVariants.{East, South, West, North}

-- the bends between two consecutive steps: none if they are equal, two if the walk doubles back, otherwise one
abbrev pub turn : Dir → Dir → ℕ
turn East East = 0
turn South South = 0
turn West West = 0
turn North North = 0
turn East West = 2
turn South North = 2
turn West East = 2
turn North South = 2
turn _ _ = 1

-- the bends of the steps that follow a step in the direction
abbrev pub bends_after : Dir → List Dir → ℕ
bends_after d [] = 0
bends_after d (e ∷ es) = turn d e + bends_after e es

-- the bends of a list of steps
abbrev pub bends : List Dir → ℕ
bends [] = 0
bends (d ∷ ds) = bends_after d ds

-- the cost of a walk with these steps: its length, and the penalty for each bend
abbrev pub walk_cost : ℕ → List Dir → ℕ
walk_cost penalty steps = length steps + penalty * bends steps

-- the number of runs that begin among the steps that follow a step in the direction
abbrev pub runs_after : Dir → List Dir → ℕ
runs_after d [] = 0
runs_after d (e ∷ es) = (if turn d e == 0 then 0 else 1) + runs_after e es

-- the number of runs of a list of steps: its longest blocks of equal steps
abbrev pub runs : List Dir → ℕ
runs [] = 0
runs (d ∷ ds) = 1 + runs_after d ds
