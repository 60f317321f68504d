-- Runs of one way with some length.
use Rattle.std.specs.Prelude.{◌≡◌, ◌<ℤ◌, List, All}
use Rattle.plane_geom.specs.declared.point.Way.{Way}
use Rattle.segment_order.specs.declared.run.Run.{Run}

-- the runs of the way have some length, so that the runs beside them are in the order of its heading
abbrev pub HaveLength : Way → List Run → Type 0
HaveLength way runs = All (λ r. r.way ≡ way → r.lo <ℤ r.hi) runs
