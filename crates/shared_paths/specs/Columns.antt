-- Runs of one way, and those near a column. No public clause cites this module.
use Rattle.std.specs.Prelude.{◌&&◌, ◌≤ℤ◌, Bool, not, int_lt, List, AllPairs}
use Rattle.plane_geom.specs.declared.point.Way.{Way}
use Rattle.plane_geom.specs.declared.point.Way.TheVariants.{Vertical, Horizontal}
use Rattle.segment_order.specs.declared.run.Run.{Run}
use Rattle.shared_paths.specs.Crossings.{is_vertical}

-- the run goes this way
abbrev pub goes : Way → Run → Bool
goes Vertical r = is_vertical r.way
goes Horizontal r = not (is_vertical r.way)

-- the run reaches into the column from the one run to the other
abbrev pub is_near : Run → Run → Run → Bool
is_near first last r = int_lt r.lo last.at && int_lt first.at r.hi

-- runs by rising coordinate
abbrev pub AreRising : List Run → Type 0
AreRising runs = AllPairs (λ (a b : Run). a.at ≤ℤ b.at) runs
