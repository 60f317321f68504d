-- Lower bounds on the cost of reaching a place.
use Rattle.std.specs.Prelude.{ℕ, ◌≡◌, ◌+◌, ◌<◌, min, List, [], ◌∷◌, All, fold, length, Option, Some, None, pos, slice_get, slice_index_or, Vec}
use Rattle.std.specs.declared.alloc.Global.{Global}
use Rattle.plane_geom.specs.declared.point.Point.{Point}
use Rattle.plane_geom.specs.declared.point.Dir.{Dir}
use Rattle.plane_geom.specs.declared.point.Dir.TheVariants.{East, South, West, North}
use Rattle.walk_model.specs.declared.task.Task.{Task}
use Rattle.search_problem.specs.Origins.{IsOrigin, bound_from}
use Rattle.search_problem.specs.declared.origin.Origin.{Origin}

-- no first walk costs more
abbrev pub most_cost : ℕ
most_cost = 300000000000000000

-- a lower bound on the cost of reaching the point with the heading from one of the origins; `most_cost` if there is none
abbrev pub least_bound_from : ℕ → List Origin → Point → Dir → ℕ
least_bound_from penalty origins p heading = fold (λ least o. min least (bound_from penalty o p heading)) most_cost origins

-- the checkpoint with the number, from 0
abbrev pub checkpoint : List Point → ℕ → Point
checkpoint via k = slice_index_or via k (record { x = pos 0; y = pos 0 })

-- the origin of walks that leave the checkpoint with the heading, where those to it begin at the origins before
abbrev pub origin_at : ℕ → List Origin → Point → Dir → Origin
origin_at penalty before at heading = record {
  dir = heading;
  ports = record { left = at.x; top = at.y; right = at.x; bottom = at.y };
  lead = least_bound_from penalty before at heading;
}

-- the same for each heading
abbrev pub origins_at : ℕ → List Origin → Point → List Origin
origins_at penalty before at =
    origin_at penalty before at East ∷ origin_at penalty before at South ∷ origin_at penalty before at West ∷ origin_at penalty before at North ∷ []

-- the origins of a stage, if there is one
abbrev pub origins_in : Option (Vec Origin Global) → List Origin
origins_in None = []
origins_in (Some v) = v.items

-- the origins of walks that have passed k checkpoints
abbrev pub origins_after : List (Vec Origin Global) → ℕ → List Origin
origins_after stages k = origins_in (slice_get stages k)

-- after each checkpoint walks go on from its point, and cost at least as much as up to there
pub record AreStages (penalty : ℕ) (via : List Point) (stages : List (Vec Origin Global)) : Type 0 where
  pub each : (k : ℕ) → k < length stages → All IsOrigin (origins_after stages k)
  pub next : (k : ℕ) → k + 1 < length stages → origins_after stages (k + 1) ≡ origins_at penalty (origins_after stages k) (checkpoint via k)

-- a lower bound on the cost of reaching the point with the heading after k checkpoints
abbrev pub bound_of : List (Vec Origin Global) → Task → ℕ → Dir → Point → ℕ
bound_of stages task k heading p = least_bound_from task.penalty (origins_after stages k) p heading
