-- Where shared paths begin. No public clause cites this module.
use Rattle.std.specs.Prelude.{ℕ, ◌<◌, ◌≡◌, ◌≤ℤ◌, false, List, length, Option, Some, None, nat_lt, if◌then◌else◌}
use Rattle.std.specs.Ordering.{bool_cmp, int_cmp, is_lt, ordering_then}
use Rattle.std.specs.declared.cmp.Ordering.{Ordering}
use Rattle.segment_order.specs.declared.run.Run.{Run}
use Rattle.segment_order.specs.Run.{run_at}
use Rattle.shared_paths.specs.declared.path.EdgeRuns.{EdgeRuns}
use Rattle.shared_paths.specs.declared.path.SharedPath.{SharedPath}
use Rattle.shared_paths.specs.declared.stretch.WholeLine.{WholeLine}
use Rattle.shared_paths.specs.declared.stretch.Stretch.{Stretch}
use Rattle.shared_paths.specs.declared.start.Start.{Start}
use Rattle.shared_paths.specs.Pairs.{Pair, IsPair, GoesOn}
use Rattle.shared_paths.specs.Listed.{PairedPath, IsPairedPath, path_of, route_at}
use Rattle.shared_paths.specs.Crossings.{is_vertical}

-- the run as a stretch of its line, with the index of its route and its own
abbrev pub as_stretch : Run → ℕ → ℕ → Stretch
as_stretch r route index = record { line = record { is_vertical = is_vertical r.way; at = r.at }; lo = r.lo; hi = r.hi; route = route; index = index }

-- the run at the index of the route at the index, as a stretch
abbrev pub stretch_of : List EdgeRuns → ℕ → ℕ → Stretch
stretch_of routes k m = as_stretch (run_at (route_at routes k).runs m) k m

-- the stretch is that of a run of the routes
pub record IsStretch (routes : List EdgeRuns) (s : Stretch) : Type 0 where
  pub of_route : s.route < length routes
  pub of_run : s.index < length (route_at routes s.route).runs
  pub is : s ≡ stretch_of routes s.route s.index

-- the order of lines
abbrev pub line_cmp : WholeLine → WholeLine → Ordering
line_cmp a b = ordering_then (bool_cmp a.is_vertical b.is_vertical) (int_cmp a.at b.at)

-- the line of the one does not stand after that of the other; on one line the one begins no later
pub record BeginsFirst (one other : Stretch) : Type 0 where
  pub line : is_lt (line_cmp other.line one.line) ≡ false
  pub lo : one.line ≡ other.line → one.lo ≤ℤ other.lo

-- the first pair
abbrev pub pair_of : Start → Pair
pair_of s = record { a = s.first; b = s.b_first }

-- the start at a stretch of the one route and a stretch of the other
abbrev pub start_from : Stretch → Stretch → Start
start_from one other = record { a = one.route; b = other.route; first = one.index; b_first = other.index }

-- the start at two stretches, that of the earlier route first; none where they are of one route
abbrev pub start_of : Stretch → Stretch → Option Start
start_of one other =
    if nat_lt one.route other.route then Some (start_from one other)
    else (if nat_lt other.route one.route then Some (start_from other one) else None)

-- the pair does not go on back, so a path begins there
pub record IsStart (routes : List EdgeRuns) (s : Start) : Type 0 where
  pub earlier : s.a < s.b
  pub within : s.b < length routes
  pub pair : IsPair (route_at routes s.a).runs (route_at routes s.b).runs (pair_of s)
  pub begins : GoesOn (route_at routes s.a).runs (route_at routes s.b).runs false (pair_of s) → ⊥

-- the path that begins there, through the others
abbrev pub paired_from : Start → List Pair → PairedPath
paired_from s others = record { one = s.a; other = s.b; first = pair_of s; others = others }

-- the path is the one that begins there
pub record IsPathFrom (routes : List EdgeRuns) (s : Start) (path : SharedPath) : Type 0 where
  pub others : List Pair
  pub paired : IsPairedPath routes (paired_from s others)
  pub is : path ≡ path_of routes (paired_from s others)
