-- Where the one move from a crossing in a direction leads.
use Rattle.std.specs.Prelude.{ℕ, ◌≡◌, ◌+◌, ◌*◌}
use Rattle.plane_geom.specs.declared.point.Point.{Point}
use Rattle.plane_geom.specs.declared.point.Dir.{Dir}
use Rattle.plane_geom.specs.declared.floor.Floor.{Floor}
use Rattle.walk_model.specs.declared.task.Task.{Task}
use Rattle.walk_model.specs.Cost.{turn}
use Rattle.proof_model.specs.Places.{Place, IsMove}
use Rattle.proof_model.specs.declared.next.Next.{Next}

-- the end of the move, by its point
abbrev pub place_of : Next → Place
place_of n = record { stage = n.place.stage; at = n.at; heading = n.place.heading }

-- from the point in this stage, in each heading, the one move in the direction leads to this place
pub record IsNext (floor : Floor) (task : Task) (stage : ℕ) (at : Point) (d : Dir) (n : Next) : Type 0 where
  pub heading : n.place.heading ≡ d
  pub move : (h : Dir) → IsMove floor task (record { stage = stage; at = at; heading = h }) (n.steps + task.penalty * turn h d) (place_of n)
  pub only : (h : Dir) (cost : ℕ) (y : Place) → y.heading ≡ d → IsMove floor task (record { stage = stage; at = at; heading = h }) cost y →
      (y ≡ place_of n) × (cost ≡ n.steps + task.penalty * turn h d)

-- from the point in this stage no move leads in the direction
abbrev pub IsNoneNext : Floor → Task → ℕ → Point → Dir → Type 0
IsNoneNext floor task stage at d =
    (h : Dir) (cost : ℕ) (y : Place) → y.heading ≡ d → IsMove floor task (record { stage = stage; at = at; heading = h }) cost y → ⊥
