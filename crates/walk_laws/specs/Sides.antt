-- To which side the runs of a first walk are held.
use Rattle.std.specs.Prelude.{ℕ, ◌≡◌, ◌⊎◌, ◌+◌, ◌<◌, ◌≤◌, ◌≤ℤ◌, List, Any, take, drop, replicate}
use Rattle.plane_geom.specs.declared.point.Point.{Point}
use Rattle.plane_geom.specs.declared.point.Dir.{Dir}
use Rattle.plane_geom.specs.declared.point.Dir.TheVariants.{East, South, West, North}
use Rattle.plane_geom.specs.declared.point.Way.TheVariants.{Vertical, Horizontal}
use Rattle.plane_geom.specs.declared.rect.Rect.{Rect}
use Rattle.plane_geom.specs.declared.rect.Solid.{Solid}
use Rattle.plane_geom.specs.declared.floor.Line.{Line}
use Rattle.plane_geom.specs.Floor.{Holds}
use Rattle.walk_model.specs.Walk.{Walk, point_at, step_at}
use Rattle.walk_model.specs.Cost.{turn}
use Rattle.walk_laws.specs.Lines.{run_line}

-- the line shares a point with the closed side of the rectangle, on its whole line, from which the rectangle lies in the direction
abbrev pub SharesSideTo : Dir → Line → Rect → Type 0
SharesSideTo East l r = (l.way ≡ Vertical) × (r.left ≡ l.at) × (l.lo ≤ℤ r.bottom) × (r.top ≤ℤ l.hi)
SharesSideTo South l r = (l.way ≡ Horizontal) × (r.top ≡ l.at) × (l.lo ≤ℤ r.right) × (r.left ≤ℤ l.hi)
SharesSideTo West l r = (l.way ≡ Vertical) × (r.right ≡ l.at) × (l.lo ≤ℤ r.bottom) × (r.top ≤ℤ l.hi)
SharesSideTo North l r = (l.way ≡ Horizontal) × (r.bottom ≡ l.at) × (l.lo ≤ℤ r.right) × (r.left ≤ℤ l.hi)

-- to which side a run is held, by the step before it and the step after it: to where the walk comes from; between two equal steps to the lesser coordinate
abbrev pub held_to : Dir → Dir → Dir
held_to East _ = West
held_to South _ = North
held_to West East = East
held_to West _ = West
held_to North South = South
held_to North _ = North

-- the line shares a point with a side of a solid that lies in the direction, or holds a checkpoint
abbrev pub IsHeldTo : List Solid → List Point → Dir → Line → Type 0
IsHeldTo solids via side l = Any (λ s. SharesSideTo side l s.rect) solids ⊎ Any (Holds l) via

-- each run of the walk that begins after its point number `from` and ends before its point number `to` is held to its side
abbrev pub AreRunsHeldTo : List Solid → List Point → Walk → ℕ → ℕ → Type 0
AreRunsHeldTo solids via w from to =
    (k n : ℕ) (d : Dir) → from ≤ k → 0 < n → k + 1 + n < to → take n (drop (k + 1) w.steps) ≡ replicate n d →
    0 < turn (step_at w k) d → 0 < turn d (step_at w (k + 1 + n)) →
    IsHeldTo solids via (held_to (step_at w k) (step_at w (k + 1 + n))) (run_line (point_at w (k + 1)) d n)
