-- What calls of spreading need and give while an exit is taken. No public clause cites this module.
use Rattle.std.specs.Prelude.{ℕ, ◌≡◌, ◌≤◌, Contains, length}
use Rattle.std.specs.BinaryHeap.{heap_items}
use Rattle.std.specs.declared.cmp.Reverse.{Reverse}
use Rattle.search_problem.specs.declared.queue.Candidate.{Candidate}
use Rattle.plane_geom.specs.declared.point.Point.{Point}
use Rattle.plane_geom.specs.declared.point.Dir.{Dir}
use Rattle.plane_geom.specs.declared.point.Way.{Way}
use Rattle.plane_geom.specs.Along.{way_of}
use Rattle.line_lists.specs.Lists.{Lists}
use Rattle.search_problem.specs.declared.problem.Problem.{Problem}
use Rattle.exit_rows.specs.Exits.{IsSmallAhead}
use Rattle.exit_rows.specs.Rows.{kept_in}
use Rattle.exit_rows.specs.declared.exit.Exit.{Exit}
use Rattle.exit_rows.specs.declared.exit.Kept.{Kept}
use Rattle.exit_spread.specs.declared.spread.Spread.{Spread}
use Rattle.exit_spread.specs.Searching.{weight}
use Rattle.exit_spread.specs.Ways.{IsWayAhead}

-- the exit, which is at the point, may be taken
pub record IsExit (p : Problem) (line_of : ℕ → Way → ℕ) (x : Exit) (at : Point) : Type 0 where
  pub line : x.line ≡ line_of x.place.crossing (way_of x.place.heading)
  pub stage : x.place.stage ≤ length p.task.now.via
  pub way : IsWayAhead p x.place at x.ahead
  pub small : IsSmallAhead x.ahead

-- lines keep what they kept, all candidates and the limit stay, and the best cost and the weight have not risen
pub record Grows (p : Problem) (lists : Lists) (old new : Spread) : Type 0 where
  pub rows : (k l : ℕ) (d : Dir) (e : Kept) → Contains (kept_in old.rows k l d) e → Contains (kept_in new.rows k l d) e
  pub queue : (c : Reverse (Candidate Exit)) → Contains (heap_items old.queue.heap) c → Contains (heap_items new.queue.heap) c
  pub limit : new.limit ≡ old.limit
  pub best : new.best ≤ old.best
  pub weight : weight p lists new ≤ weight p lists old
