-- Where on a run a walk may turn into it.
use Rattle.std.specs.Prelude.{ℕ, ℤ, pos, ◌≡◌, ◌⊎◌, ◌==◌, ◌+◌, ◌≤◌, ◌≤ℤ◌, ◌<ℤ◌, ◌-ℤ◌, if◌then◌else◌}
use Rattle.plane_geom.specs.declared.point.Point.{Point}
use Rattle.plane_geom.specs.declared.point.Dir.{Dir}
use Rattle.plane_geom.specs.declared.point.Dir.TheVariants.{East, South, West, North}
use Rattle.plane_geom.specs.declared.rect.Rect.{Rect}
use Rattle.plane_geom.specs.Along.{across, reach, way_of}
use Rattle.move_model.specs.Boxes.{behind_by}
use Rattle.walk_model.specs.Cost.{turn}
use Rattle.search_problem.specs.declared.origin.Origin.{Origin}
use Rattle.exit_rows.specs.Exits.{ahead_at}
use Rattle.exit_spread.specs.declared.near.Near.{Near}
use Rattle.exit_spread.specs.declared.run.Run.{Run}

-- the least reach of the rectangle in the direction
abbrev pub least_reach : Dir → Rect → ℤ
least_reach East r = r.left
least_reach South r = r.top
least_reach West r = pos 0 -ℤ r.right
least_reach North r = pos 0 -ℤ r.bottom

-- the greatest reach of the rectangle in the direction
abbrev pub greatest_reach : Dir → Rect → ℤ
greatest_reach East r = r.right
greatest_reach South r = r.bottom
greatest_reach West r = pos 0 -ℤ r.left
greatest_reach North r = pos 0 -ℤ r.top

-- the reach is one from `from` on, or one from `low` to `high`
abbrev pub HasReach : Near → ℤ → Type 0
HasReach n z = (n.from ≤ℤ z) ⊎ ((n.low ≤ℤ z) × (z ≤ℤ n.high))

-- a walk may leave the ports and come to the whole line through the point with the heading, and not bend
pub record ComesStraight (o : Origin) (p : Point) (heading : Dir) : Type 0 where
  pub dir : o.dir ≡ heading
  pub behind : behind_by heading o.ports p ≡ 0

-- the fewest bends of a walk that comes with the heading to the whole line across it through the point, and not before the ports
abbrev pub bends_to_line : Origin → Point → Dir → ℕ
bends_to_line o p heading =
    if turn o.dir heading == 0 then (if behind_by heading o.ports p == 0 then 2 else 4)
    else if turn o.dir heading == 1 then (if behind_by heading o.ports p == 0 then 1 else 3)
    else 2

-- wherever a walk that is bounded so may turn into the run, and then costs no more than `best`, is such a reach
abbrev pub IsNear : Run → (Point → ℕ) → ℕ → ℕ → Near → Type 0
IsNear r bound penalty best near =
    (q : Point) → across (way_of r.heading) q ≡ across (way_of r.heading) r.end → reach r.heading q <ℤ r.kept.at →
    (ahead_at r.kept (reach r.heading q)).cost + penalty + bound q ≤ best → HasReach near (reach r.heading q)
