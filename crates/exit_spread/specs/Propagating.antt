-- What calls of spreading need and give while an exit is propagated. No public clause cites this module.
use Rattle.std.specs.Prelude.{ℕ, ◌≡◌, ◌+◌, ◌*◌, ◌<◌, ◌≤◌, ◌≤ℤ◌, ℤ, pos, ◌-ℤ◌, unsigned_abs, length, Contains, All, List, None, Some}
use Rattle.std.specs.BinaryHeap.{heap_items}
use Rattle.std.specs.declared.cmp.Reverse.{Reverse}
use Rattle.search_problem.specs.declared.queue.Candidate.{Candidate}
use Rattle.plane_geom.specs.declared.point.Point.{Point}
use Rattle.plane_geom.specs.declared.point.Dir.{Dir}
use Rattle.plane_geom.specs.declared.point.Dir.TheVariants.{East, South, West, North}
use Rattle.plane_geom.specs.declared.point.Way.{Way}
use Rattle.plane_geom.specs.Along.{across, reach, way_of}
use Rattle.plane_geom.specs.Point.{IsCoordinate, opposite}
use Rattle.line_arena.specs.Arena.{StandsAt}
use Rattle.line_lists.specs.Lists.{AreListsOf, Lists}
use Rattle.line_lists.specs.declared.stop.Stop.{Stop}
use Rattle.move_model.specs.declared.ahead.Ahead.{Ahead}
use Rattle.move_model.specs.Places.{ComesTo}
use Rattle.search_problem.specs.declared.problem.Problem.{Problem}
use Rattle.side_touches.specs.Touches.{AreTouches, LineTouches}
use Rattle.exit_rows.specs.Exits.{CountsAt, ahead_at}
use Rattle.exit_rows.specs.declared.exit.Exit.{Exit}
use Rattle.exit_spread.specs.declared.run.Run.{Run}
use Rattle.exit_spread.specs.declared.spread.Spread.{Spread}
use Rattle.exit_spread.specs.Offers.{IsHeldUpTo, IsOffered, MayBegin, exit_of, from_of}
use Rattle.exit_spread.specs.Searching.{IsCandidate, IsKeptOf}
use Rattle.exit_spread.specs.Ways.{IsBest, place_at, turned}

-- what is ahead exceeds the bounds of a first walk by at most one run and what it costs
pub record IsOfferable (v : Ahead) : Type 0 where
  pub cost : v.cost ≤ 300000020000000000
  pub runs : v.runs ≤ 3289603
  pub lean : unsigned_abs v.lean ≤ 2000000000 * v.runs

-- what is ahead exceeds the bounds of a first walk by at most the length of a line
pub record IsFurtherAhead (v : Ahead) : Type 0 where
  pub cost : v.cost ≤ 300000010000000000
  pub runs : v.runs ≤ 3289602
  pub lean : unsigned_abs v.lean ≤ 2000000000 * v.runs

-- a direction across the direction
abbrev pub crosswise : Dir → Dir
crosswise East = South
crosswise South = East
crosswise West = South
crosswise North = East

-- how far on a point lies on its line in the direction, by its coordinate along the line
abbrev pub reach_along : Dir → ℤ → ℤ
reach_along East z = z
reach_along South z = z
reach_along West z = pos 0 -ℤ z
reach_along North z = pos 0 -ℤ z

-- the first point is on the whole line through the second in the direction, and no further on
pub record LiesUpTo (r : Point) (d : Dir) (q : Point) : Type 0 where
  pub across : across (way_of d) r ≡ across (way_of d) q
  pub upto : reach d r ≤ℤ reach d q

-- the lists and the touches are those of the arena of the problem
pub record AreOf (p : Problem) (lists : Lists) (touches : List LineTouches) : Type 0 where
  pub are_lists : AreListsOf p.arena.now lists
  pub are_touches : ∥ AreTouches lists.lines p.solids.now touches ∥₁

-- the candidates are exits that may be taken, and the best cost is one of a walk
pub record IsSound (p : Problem) (line_of : ℕ → Way → ℕ) (s : Spread) : Type 0 where
  pub candidates : All (λ c. IsCandidate p line_of c.0) (heap_items s.queue.heap)
  pub best : IsBest p s.limit s.best

-- the rows and the limit stayed, the best cost did not rise, and at most n candidates were added
pub record Adds (p : Problem) (line_of : ℕ → Way → ℕ) (old new : Spread) (n : ℕ) : Type 0 where
  pub rows : new.rows ≡ old.rows
  pub limit : new.limit ≡ old.limit
  pub best : new.best ≤ old.best
  pub kept : (c : Reverse (Candidate Exit)) → Contains (heap_items old.queue.heap) c → Contains (heap_items new.queue.heap) c
  pub count : length (heap_items new.queue.heap) ≤ length (heap_items old.queue.heap) + n
  pub sound : IsSound p line_of new

-- the exit of the run may be kept, and counts from where the run begins on
pub record IsRun (p : Problem) (line_of : ℕ → Way → ℕ) (r : Run) : Type 0 where
  pub here : StandsAt p.arena.now r.kept.crossing r.end
  pub kept : IsKeptOf p line_of r.stage r.line r.heading (record r.kept { from = from_of p.task.now.via r.stage r.heading r.end })
  pub from : from_of p.task.now.via r.stage r.heading r.end ≤ℤ r.kept.from
  pub within : IsCoordinate r.kept.from

-- the crossing, which is at the point, is on the line of the run, and the run's exit counts there
pub record IsBehind (p : Problem) (line_of : ℕ → Way → ℕ) (r : Run) (c : ℕ) (q : Point) : Type 0 where
  pub here : StandsAt p.arena.now c q
  pub on : line_of c (way_of r.heading) ≡ r.line
  pub counts : CountsAt r.kept (reach r.heading q)

-- the turn from the heading into the run at the crossing was offered
abbrev pub IsTurnOffered : Problem → (ℕ → Way → ℕ) → Spread → Run → Dir → ℕ → Point → Type 0
IsTurnOffered p line_of s r h c q =
    IsOffered p s None q (exit_of line_of (place_at c r.stage h) (Some r.heading) (turned p h q r.heading (ahead_at r.kept (reach r.heading q))))

-- what one may do at the crossing with a checkpoint was offered
pub record IsMet (p : Problem) (line_of : ℕ → Way → ℕ) (s : Spread) (r : Run) (c : ℕ) (q : Point) : Type 0 where
  pub tip : IsOffered p s None q (exit_of line_of (place_at c r.stage (opposite r.heading)) None (turned p (opposite r.heading) q r.heading (ahead_at r.kept (reach r.heading q))))
  pub on : (j : ℕ) → j < r.stage → ComesTo p.task.now.via j q r.stage → IsOffered p s None q (exit_of line_of (place_at c r.stage r.heading) None (ahead_at r.kept (reach r.heading q)))

-- so it was at the crossing behind the run's exit that is at the point
abbrev pub IsMetAt : Problem → (ℕ → Way → ℕ) → Spread → Run → Point → Type 0
IsMetAt p line_of s r q = (c : ℕ) → IsBehind p line_of r c q → IsMet p line_of s r c q

-- at each crossing behind the run's exit the turn from the heading was offered, if the run is held from there and one in the heading may begin
abbrev pub IsTurnedOff : Problem → (ℕ → Way → ℕ) → Spread → Run → Dir → Type 0
IsTurnedOff p line_of s r h =
    (c : ℕ) (q : Point) → IsBehind p line_of r c q → IsHeldUpTo p h r.heading q r.kept → MayBegin p h c q r.heading → IsTurnOffered p line_of s r h c q

-- the turn from the heading into the run was offered at the stop, if a run in the heading may begin
abbrev pub IsTurnedAt : Problem → (ℕ → Way → ℕ) → Spread → Run → Dir → Stop → Type 0
IsTurnedAt p line_of s r h stop = (q : Point) → StandsAt p.arena.now stop.crossing q → MayBegin p h stop.crossing q r.heading → IsTurnOffered p line_of s r h stop.crossing q
