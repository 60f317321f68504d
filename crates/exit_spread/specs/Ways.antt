-- What is ahead of a place by some way, the bounds of a first walk, and the numbers of lines.
use Rattle.std.specs.Prelude.{ℕ, ◌≡◌, ◌↔◌, ◌≤◌, ◌⊎◌, List, Some, slice_get}
use Rattle.std.specs.FinMap.{get}
use Rattle.plane_geom.specs.declared.point.Point.{Point}
use Rattle.plane_geom.specs.declared.point.Dir.{Dir}
use Rattle.plane_geom.specs.declared.point.Way.{Way}
use Rattle.plane_geom.specs.Along.{way_of}
use Rattle.line_arena.specs.Arena.{Arena, Pair, StandsAt, line_along}
use Rattle.walk_model.specs.declared.task.Choice.{Choice}
use Rattle.walk_model.specs.Order.{Triple, IsLegalTriple, triple_cost}
use Rattle.move_model.specs.declared.place.Place.{Place}
use Rattle.move_model.specs.declared.ahead.Ahead.{Ahead}
use Rattle.move_model.specs.Ahead.{ahead, with_stretch}
use Rattle.move_model.specs.Ways.{IsWay, Leg, steps_of_way}
use Rattle.search_problem.specs.Bounds.{bound_of, most_cost}
use Rattle.search_problem.specs.declared.problem.Problem.{Problem}

-- no first walk has more runs
abbrev pub most_runs : ℕ
most_runs = 3289602

-- the place at the crossing with the heading, after k checkpoints
abbrev pub place_at : ℕ → ℕ → Dir → Place
place_at c k h = record { crossing = c; stage = k; heading = h }

-- what is ahead of a walk that arrives at the point with the heading and leaves it in the direction, with this ahead in that direction
abbrev pub turned : Problem → Dir → Point → Dir → Ahead → Ahead
turned p h at d v = with_stretch p.task.now.penalty h (record { from = at; dir = d; steps = 0 }) v

-- this is ahead on some way from the place, which is at the point
pub record IsWayAhead (p : Problem) (x : Place) (at : Point) (v : Ahead) : Type 0 where
  pub here : StandsAt p.arena.now x.crossing at
  pub legs : List Leg
  pub number : ℕ
  pub end : Choice
  pub is_end : slice_get p.task.now.ends number ≡ Some end
  pub way : IsWay p.solids.now p.arena.now p.task.now.via x legs end
  pub same : v ≡ ahead p.task.now.penalty x.heading at (steps_of_way legs end) end.cost

-- a lower bound on the cost of a walk that reaches the place, which is at the point
abbrev pub bound_at : Problem → Place → Point → ℕ
bound_at p x at = bound_of p.origins.items p.task.now x.stage x.heading at

-- the number is the limit, or the cost of a legal walk
pub record IsBest (p : Problem) (limit best : ℕ) : Type 0 where
  pub most : best ≤ most_cost
  pub of_walk : (best ≡ limit) ⊎ ((t : Triple) × IsLegalTriple p.solids.now p.task.now t × (best ≡ triple_cost p.task.now t))

-- the lines through the crossings of the arena have numbers: the same line has one number, and different lines have different ones
pub record AreNumbered (a : Arena) (number_of : ℕ → Way → ℕ) : Type 0 where
  pub one : (b c : ℕ) (d e : Dir) (here there : Pair) → get a.crossings b ≡ Some here → get a.crossings c ≡ Some there →
      (number_of b (way_of d) ≡ number_of c (way_of e)) ↔ (line_along d here ≡ line_along e there)
