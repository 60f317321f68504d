-- The conditions, run by run, under which the walk along runs is legal.
use Rattle.std.specs.Prelude.{◌≡◌, ◌⊎◌, ℕ, ◌+◌, ◌-◌, ◌<◌, ◌≤◌, ℤ, ◌-ℤ◌, ◌≤ℤ◌, unsigned_abs, List, [], ◌∷◌, ◌++◌, length, replicate, All}
use Rattle.plane_geom.specs.declared.point.Point.{Point}
use Rattle.plane_geom.specs.declared.point.Dir.{Dir}
use Rattle.plane_geom.specs.declared.rect.Solid.{Solid}
use Rattle.plane_geom.specs.Along.{reach}
use Rattle.plane_geom.specs.Point.{opposite}
use Rattle.plane_geom.specs.Rect.{Meets}
use Rattle.plane_geom.specs.Floor.{Holds}
use Rattle.walk_model.specs.declared.task.Choice.{Choice}
use Rattle.walk_model.specs.Walk.{Walk}
use Rattle.segment_order.specs.declared.run.Run.{Run}
use Rattle.segment_order.specs.Run.{run_at, line_of_run, start_of_run, end_of_run}

-- the number of steps of the run
abbrev pub steps_of_run : Run → ℕ
steps_of_run r = unsigned_abs (r.hi -ℤ r.lo)

-- the unit steps along the runs
abbrev pub steps_along : List Run → List Dir
steps_along [] = []
steps_along (r ∷ rs) = replicate (steps_of_run r) r.heading ++ steps_along rs

-- the walk along the runs of a route
abbrev pub walk_along : List Run → Walk
walk_along runs = record { start = start_of_run (run_at runs 0); steps = steps_along runs }

-- a place on a route: on the run with this index, at this coordinate in its heading
pub record Station : Type 0 where
  pub run : ℕ
  pub reach : ℤ

-- the first place comes before the second on the route, or is equal to it
abbrev pub IsNotAfter : Station → Station → Type 0
IsNotAfter p q = (p.run < q.run) ⊎ ((p.run ≡ q.run) × (p.reach ≤ℤ q.reach))

-- between two places of the route the checkpoints are on its runs, in order
abbrev pub PassesOn : List Run → Station → Station → List Point → Type 0
PassesOn runs from to [] = Unit {0}
PassesOn runs from to (c ∷ cs) = (at : Station) × (at.run < length runs) × IsNotAfter from at × IsNotAfter at to × Holds (line_of_run (run_at runs at.run)) c × (at.reach ≡ reach (run_at runs at.run).heading c) × PassesOn runs at to cs

-- the segment has no point inside a solid
abbrev pub IsClear : List Solid → Point → Point → Type 0
IsClear solids p q = All (λ s. Meets s.rect p q → ⊥) solids

-- the route goes from choice to choice, its runs between the ports are clear, and it passes the checkpoints there; it has at least three runs
pub record IsLegalAlong (solids : List Solid) (via : List Point) (s : Choice) (runs : List Run) (e : Choice) : Type 0 where
  pub some : 3 ≤ length runs
  pub begins : start_of_run (run_at runs 0) ≡ s.pin
  pub leaves : (run_at runs 0).heading ≡ s.dir
  pub source_port : Holds (line_of_run (run_at runs 0)) s.port
  pub ends : end_of_run (run_at runs (length runs - 1)) ≡ e.pin
  pub arrives : (run_at runs (length runs - 1)).heading ≡ opposite e.dir
  pub target_port : Holds (line_of_run (run_at runs (length runs - 1))) e.port
  pub from_port : IsClear solids s.port (end_of_run (run_at runs 0))
  pub between : (k : ℕ) → 0 < k → k + 1 < length runs → IsClear solids (start_of_run (run_at runs k)) (end_of_run (run_at runs k))
  pub to_port : IsClear solids (start_of_run (run_at runs (length runs - 1))) e.port
  pub passes : PassesOn runs (record { run = 0; reach = reach s.dir s.port }) (record { run = length runs - 1; reach = reach (opposite e.dir) e.port }) via
