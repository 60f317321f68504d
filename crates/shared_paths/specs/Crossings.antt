-- Where lines cross.
use Rattle.std.specs.Prelude.{ℕ, ℤ, ◌&&◌, ◌==◌, Bool, true, false, not, int_lt, List}
use Rattle.std.specs.List.{sum_by, count_by}
use Rattle.plane_geom.specs.declared.point.Way.{Way}
use Rattle.plane_geom.specs.declared.point.Way.TheVariants.{Vertical, Horizontal}
use Rattle.segment_order.specs.declared.run.Run.{Run}
use Rattle.shared_paths.specs.declared.path.EdgeRuns.{EdgeRuns}
use Rattle.shared_paths.specs.Listed.{runs_in}

abbrev pub is_vertical : Way → Bool
is_vertical Vertical = true
is_vertical Horizontal = false

-- the coordinate lies strictly between the ends of the run
abbrev pub passes : ℤ → Run → Bool
passes z r = int_lt r.lo z && int_lt z r.hi

-- a vertical run and a horizontal one, of different edges, each of which passes strictly between the ends of the other
abbrev pub crosses : Run → Run → Bool
crosses v h = is_vertical v.way && (not (is_vertical h.way) && (not (v.edge == h.edge) && (passes v.at h && passes h.at v)))

-- how many pairs of runs cross
abbrev pub crossing_count : List EdgeRuns → ℕ
crossing_count lines = sum_by (λ v. count_by (crosses v) (runs_in lines)) (runs_in lines)
