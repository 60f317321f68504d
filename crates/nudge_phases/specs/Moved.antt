-- Routes whose runs have moved.
use Rattle.std.specs.Prelude.{◌≡◌, ℕ, ◌+◌, ◌-◌, ◌<◌, ℤ, Bool, false, Option, Some, None, List, length, slice_get, slice_index, if◌then◌else◌}
use Rattle.plane_geom.specs.declared.point.Dir.{Dir}
use Rattle.plane_geom.specs.declared.point.Dir.TheVariants.{East, South, West, North}
use Rattle.plane_geom.specs.declared.point.Way.{Way}
use Rattle.plane_geom.specs.Along.{along}
use Rattle.separation_model.specs.declared.bundle.Solution.{Solution}
use Rattle.separation_model.specs.Bundle.{int_at}
use Rattle.separation_model.specs.Rounded.{IsRoundedDown}
use Rattle.segment_order.specs.declared.run.Run.{Run}
use Rattle.segment_order.specs.Run.{run_at, start_of_run, end_of_run}
use Rattle.channel_bundles.specs.declared.route.PhaseRoute.{PhaseRoute}
use Rattle.channel_bundles.specs.declared.channel.RunBundle.{RunBundle}
use Rattle.channel_bundles.specs.Route.{is_way}

-- the solution of its bundle puts the run at the coordinate, rounded down
pub record IsPutAt (found : List RunBundle) (solutions : List Solution) (r : Run) (z : ℤ) : Type 0 where
  pub place : ℕ
  pub item : ℕ
  pub bundle : RunBundle
  pub solution : Solution
  pub of_bundle : slice_get found place ≡ Some bundle
  pub of_solution : slice_get solutions place ≡ Some solution
  pub here : slice_get bundle.runs.items item ≡ Some r
  pub down : IsRoundedDown (int_at solution.pos.items item) (slice_index solution.den.items item) z

-- the run, stretched along from the first coordinate to the second
abbrev pub stretch : Dir → Run → ℤ → ℤ → Run
stretch East r from to = record r { lo = from; hi = to }
stretch South r from to = record r { lo = from; hi = to }
stretch West r from to = record r { lo = to; hi = from }
stretch North r from to = record r { lo = to; hi = from }

-- the run exists, and is of the way
abbrev pub runs_way : Way → Option Run → Bool
runs_way way None = false
runs_way way (Some r) = is_way r.way way

-- the coordinate, along another run, of the corner that run n makes with it: the coordinate of run n if that is of the way, otherwise as before
abbrev pub corner : Way → List Run → List ℤ → ℕ → ℤ → ℤ
corner way runs ats n old = if runs_way way (slice_get runs n) then int_at ats n else old

-- run k, counted from 0, after the runs of the way moved to these coordinates: those of the way move, the others follow with their corners
abbrev pub moved_run : Way → List Run → List ℤ → ℕ → Run
moved_run way runs ats k =
    let r = run_at runs k in
    if is_way r.way way then record r { at = int_at ats k }
    else stretch r.heading r (corner way runs ats (k - 1) (along r.way (start_of_run r))) (corner way runs ats (k + 1) (along r.way (end_of_run r)))

-- the route, with its runs of the way where the solutions put them
pub record IsMoved (way : Way) (found : List RunBundle) (solutions : List Solution) (before after : PhaseRoute) : Type 0 where
  pub ats : List ℤ
  pub put : (k : ℕ) → k < length before.runs.items → (run_at before.runs.items k).way ≡ way → IsPutAt found solutions (run_at before.runs.items k) (int_at ats k)
  pub count : length after.runs.items ≡ length before.runs.items
  pub runs : (k : ℕ) → k < length before.runs.items → run_at after.runs.items k ≡ moved_run way before.runs.items ats k
  pub edge : after.edge ≡ before.edge
  pub weight : after.weight ≡ before.weight
  pub source : after.anchors.source_port ≡ before.anchors.source_port
  pub target : after.anchors.target_port ≡ before.anchors.target_port
  pub via : after.anchors.via.items ≡ before.anchors.via.items
