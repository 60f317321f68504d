-- The invariants of exits that are spread, and how much there is still to do.
use Rattle.std.specs.Prelude.{ℕ, ◌≡◌, ◌≢◌, ◌+◌, ◌*◌, ◌<◌, ◌≤◌, [], length, sum_by, Option, Some, None, Contains, All}
use Rattle.std.specs.BinaryHeap.{heap_items}
use Rattle.search_problem.specs.declared.queue.Candidate.{Candidate}
use Rattle.plane_geom.specs.declared.point.Point.{Point}
use Rattle.plane_geom.specs.declared.point.Dir.{Dir}
use Rattle.plane_geom.specs.declared.point.Way.{Way}
use Rattle.plane_geom.specs.Along.{reach, way_of}
use Rattle.line_arena.specs.Arena.{StandsAt}
use Rattle.line_lists.specs.Lists.{Lists}
use Rattle.move_model.specs.Ahead.{nothing, with_stretch}
use Rattle.move_model.specs.Places.{ComesTo}
use Rattle.search_problem.specs.Bounds.{most_cost}
use Rattle.search_problem.specs.declared.ends.Ending.{Ending}
use Rattle.search_problem.specs.declared.problem.Problem.{Problem}
use Rattle.exit_rows.specs.Exits.{IsSmallAhead}
use Rattle.exit_rows.specs.Rows.{HasRow, IsClear, IsMarked, kept_in}
use Rattle.exit_rows.specs.Weights.{rows_weight}
use Rattle.exit_rows.specs.declared.exit.Exit.{Exit}
use Rattle.exit_rows.specs.declared.exit.Kept.{Kept}
use Rattle.exit_spread.specs.declared.spread.Spread.{Spread}
use Rattle.exit_spread.specs.Offers.{IsPropagated, IsOffered, exit_of, from_of}
use Rattle.exit_spread.specs.Ways.{IsBest, IsWayAhead, bound_at, place_at}

-- no line has more stops
abbrev pub most_stops : Lists → ℕ
most_stops lists = sum_by length lists.stops

-- the exit may be kept by the line with this number for walks that go along it in the direction and have passed k checkpoints
pub record IsKeptOf (p : Problem) (number_of : ℕ → Way → ℕ) (k line : ℕ) (d : Dir) (e : Kept) : Type 0 where
  pub point : Point
  pub here : StandsAt p.arena.now e.crossing point
  pub on : number_of e.crossing (way_of d) ≡ line
  pub at : e.at ≡ reach d point
  pub from : e.from ≡ from_of p.task.now.via k d point
  pub stage : ℕ
  pub comes : ComesTo p.task.now.via k point stage
  pub way : IsWayAhead p (place_at e.crossing stage d) point e.ahead
  pub small : IsSmallAhead e.ahead

-- the exit may be taken, and this is its bound
pub record IsCandidate (p : Problem) (number_of : ℕ → Way → ℕ) (c : Candidate Exit) : Type 0 where
  pub point : Point
  pub line : c.item.line ≡ number_of c.item.place.crossing (way_of c.item.place.heading)
  pub stage : c.item.place.stage ≤ length p.task.now.via
  pub way : IsWayAhead p c.item.place point c.item.ahead
  pub small : IsSmallAhead c.item.ahead
  pub bound : c.bound ≡ c.item.ahead.cost + bound_at p c.item.place point

-- there are rows for the lines of all crossings in all stages
abbrev pub HasRooms : Problem → (ℕ → Way → ℕ) → Spread → Type 0
HasRooms p number_of s = (k c : ℕ) (d : Dir) (at : Point) → k ≤ length p.task.now.via → StandsAt p.arena.now c at → HasRow s.rows k (number_of c (way_of d))

-- an exit that a line keeps: the row's stage, line and heading
pub record KeptIn : Type 0 where
  pub stage : ℕ
  pub line : ℕ
  pub heading : Dir
  pub kept : Kept

-- the invariant between two steps of a search, except that one exit may be neither queued nor kept, and one may be kept and not propagated
pub record IsSearching (p : Problem) (number_of : ℕ → Way → ℕ) (s : Spread) (hole : Option Exit) (unpropagated : Option KeptIn) : Type 0 where
  pub kept : (k c : ℕ) (d : Dir) (at : Point) → StandsAt p.arena.now c at →
      All (IsKeptOf p number_of k (number_of c (way_of d)) d) (kept_in s.rows k (number_of c (way_of d)) d)
  pub propagated : (k c : ℕ) (d : Dir) (at : Point) (e : Kept) → StandsAt p.arena.now c at → Contains (kept_in s.rows k (number_of c (way_of d)) d) e →
      Some (record { stage = k; line = number_of c (way_of d); heading = d; kept = e }) ≢ unpropagated →
      IsPropagated p number_of s hole k (number_of c (way_of d)) d e
  pub candidates : All (λ c. IsCandidate p number_of c.0) (heap_items s.queue.heap)
  pub best : IsBest p s.limit s.best
  pub marked : IsMarked s.rows
  pub rooms : HasRooms p number_of s

-- the stub of the ending was offered to walks that arrive at its port, whatever their heading
abbrev pub IsStubOffered : Problem → (ℕ → Way → ℕ) → Spread → Option Exit → Ending → Type 0
IsStubOffered p number_of s hole e =
    (h : Dir) → IsOffered p s hole e.port (exit_of number_of (place_at e.crossing (length p.task.now.via) h) None
    (with_stretch p.task.now.penalty h (record { from = e.port; dir = e.dir; steps = e.rest }) nothing))

-- no exit that is still to be taken matters to a walk that costs no more than the best
pub record IsSettled (p : Problem) (number_of : ℕ → Way → ℕ) (s : Spread) : Type 0 where
  pub searching : IsSearching p number_of s None None
  pub stubs : All (IsStubOffered p number_of s None) p.endings.items
  pub dear : All (λ c. s.best < c.0.bound) (heap_items s.queue.heap)

-- nor to any first walk: the best is the cost of a walk, or no first walk costs more
pub record IsSpread (p : Problem) (number_of : ℕ → Way → ℕ) (s : Spread) : Type 0 where
  pub settled : IsSettled p number_of s
  pub best : IsBest p most_cost s.best

-- between two searches there is no exit
pub record AreNone (s : Spread) : Type 0 where
  pub rows : IsClear s.rows
  pub queue : heap_items s.queue.heap ≡ []

-- an upper bound on the remaining work: each candidate counts, and each exit that lines may still keep, with the exits to which it may be propagated
abbrev pub weight : Problem → Lists → Spread → ℕ
weight p lists s = length (heap_items s.queue.heap) + (2 * most_stops lists + 9) * rows_weight p.arena.now.places s.rows
