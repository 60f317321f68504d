-- Where a run ends, for one who travels in a direction.
use Rattle.std.proofs.Common.{◌≡◌, ℤ, refl, arith}
use Rattle.std.proofs.lemmas.Int.{ints}
use Rattle.plane_geom.specs.declared.point.Dir.{Dir}
use Rattle.plane_geom.specs.declared.point.Dir.TheVariants.{East, South, West, North}
use Rattle.plane_geom.specs.Floor.{point_on, Holds}
use Rattle.segment_order.specs.declared.run.Run.{Run}
use Rattle.segment_order.specs.Run.{IsRun, end_in, line_of_run}

-- where the run ends along its line
abbrev pub far_end : Dir → Run → ℤ
far_end East r = r.hi
far_end South r = r.hi
far_end West r = r.lo
far_end North r = r.lo

pub end_far : (d : Dir) (r : Run) → end_in d r ≡ point_on r.way r.at (far_end d r)
end_far East r = refl
end_far South r = refl
end_far West r = refl
end_far North r = refl

pub end_held : (d : Dir) (r : Run) → IsRun r → Holds (line_of_run r) (end_in d r)
end_held East r h = record { along = r.hi; from = h.ordered; to = omega (arith, ints); here = refl }
end_held South r h = record { along = r.hi; from = h.ordered; to = omega (arith, ints); here = refl }
end_held West r h = record { along = r.lo; from = omega (arith, ints); to = h.ordered; here = refl }
end_held North r h = record { along = r.lo; from = omega (arith, ints); to = h.ordered; here = refl }
