-- The runs of a route: its straight pieces, from corner to corner.
use Rattle.std.specs.Prelude.{◌≡◌, ◌≢◌, ℕ, pos, ◌≤ℤ◌, ◌+◌, ◌<◌, List, [], ◌∷◌, length, slice_index_or, EachIndex, All}
use Rattle.std.specs.Int.{int_min, int_max}
use Rattle.plane_geom.specs.declared.point.Point.{Point}
use Rattle.plane_geom.specs.declared.point.Dir.{Dir}
use Rattle.plane_geom.specs.declared.point.Dir.TheVariants.{East, South, West, North}
use Rattle.plane_geom.specs.declared.point.Way.TheVariants.{Vertical}
use Rattle.plane_geom.specs.declared.floor.Line.{Line}
use Rattle.plane_geom.specs.Along.{way_of, across, along}
use Rattle.plane_geom.specs.Floor.{point_on}
use Rattle.plane_geom.specs.Point.{IsCoordinate, PointIsOnSheet, heading, opposite}
use Rattle.walk_model.specs.Line.{IsStraightLine}
use Rattle.segment_order.specs.declared.run.Run.{Run}

-- the run from one corner to the next
abbrev pub run_between : ℕ → ℕ → Point → Point → Run
run_between edge place p q =
    let way = way_of (heading p q) in
    record {
      edge = edge;
      place = place;
      way = way;
      heading = heading p q;
      at = across way p;
      lo = int_min (along way p) (along way q);
      hi = int_max (along way p) (along way q);
    }

-- the runs through the corners, in order, the first of them at the place
abbrev pub runs_along : ℕ → ℕ → List Point → List Run
runs_along edge place [] = []
runs_along edge place (p ∷ []) = []
runs_along edge place (p ∷ q ∷ ps) = run_between edge place p q ∷ runs_along edge (place + 1) (q ∷ ps)

-- the end of the run at which one who travels in the direction leaves it
abbrev pub end_in : Dir → Run → Point
end_in East r = point_on r.way r.at r.hi
end_in South r = point_on r.way r.at r.hi
end_in West r = point_on r.way r.at r.lo
end_in North r = point_on r.way r.at r.lo

-- the points where the run begins and ends
abbrev pub start_of_run : Run → Point
start_of_run r = end_in (opposite r.heading) r

abbrev pub end_of_run : Run → Point
end_of_run r = end_in r.heading r

-- the run as a piece of its whole line
abbrev pub line_of_run : Run → Line
line_of_run r = record { way = r.way; at = r.at; lo = r.lo; hi = r.hi }

-- the value that is read past the last run
abbrev pub no_run : Run
no_run = record { edge = 0; place = 0; way = Vertical; heading = South; at = pos 0; lo = pos 0; hi = pos 0 }

-- the run at the index, counted from 0
abbrev pub run_at : List Run → ℕ → Run
run_at runs k = slice_index_or runs k no_run

-- a run on the sheet; it may have no length
pub record IsRun (r : Run) : Type 0 where
  pub way : r.way ≡ way_of r.heading
  pub at : IsCoordinate r.at
  pub lo : IsCoordinate r.lo
  pub hi : IsCoordinate r.hi
  pub ordered : r.lo ≤ℤ r.hi

-- all runs of a route of the edge, in order and numbered from 1: each begins where the one before it ends, with another heading
pub record AreRunsOf (edge : ℕ) (runs : List Run) : Type 0 where
  pub some : 0 < length runs
  pub each : EachIndex runs (λ k. IsRun (run_at runs k))
  pub edges : EachIndex runs (λ k. (run_at runs k).edge ≡ edge)
  pub places : EachIndex runs (λ k. (run_at runs k).place ≡ k + 1)
  pub joined : (k : ℕ) → k + 1 < length runs → end_of_run (run_at runs k) ≡ start_of_run (run_at runs (k + 1))
  pub turns : (k : ℕ) → k + 1 < length runs → (run_at runs k).heading ≢ (run_at runs (k + 1)).heading

-- the point at the index; past the end, the origin
abbrev pub point_at_index : List Point → ℕ → Point
point_at_index points k = slice_index_or points k (record { x = pos 0; y = pos 0 })

-- corners whose runs are those of a route: at least two, on the sheet, each straight from the one before it, and the heading changes at each of them
pub record AreCorners (points : List Point) : Type 0 where
  pub some : 1 < length points
  pub on_sheet : All PointIsOnSheet points
  pub straight : IsStraightLine points
  pub turns : (k : ℕ) → k + 2 < length points →
      heading (point_at_index points k) (point_at_index points (k + 1)) ≢ heading (point_at_index points (k + 1)) (point_at_index points (k + 2))
