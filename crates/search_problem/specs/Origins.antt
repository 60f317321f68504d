-- The ports that walks leave in one direction, and lower bounds on the cost from there.
use Rattle.std.specs.Prelude.{ℕ, ◌≡◌, ◌+◌, ◌*◌, ◌^◌, ◌≤◌, List, All, Any}
use Rattle.plane_geom.specs.declared.point.Point.{Point}
use Rattle.plane_geom.specs.declared.point.Dir.{Dir}
use Rattle.plane_geom.specs.Point.{PointIsOnSheet}
use Rattle.plane_geom.specs.Rect.{HasWithin, RectIsOnSheet}
use Rattle.move_model.specs.Boxes.{distance_from, fewest_bends}
use Rattle.search_problem.specs.declared.ends.Entry.{Entry}
use Rattle.search_problem.specs.declared.origin.Origin.{Origin}

-- a lower bound on the cost of reaching the point with the heading from the ports
abbrev pub bound_from : ℕ → Origin → Point → Dir → ℕ
bound_from penalty o p heading = o.lead + distance_from o.ports p + penalty * fewest_bends o.dir o.ports p heading

-- the entry begins in the origin's direction at one of its ports, and costs at least the origin's lead
pub record Covers (o : Origin) (e : Entry) : Type 0 where
  pub dir : e.place.heading ≡ o.dir
  pub port : HasWithin o.ports e.port
  pub lead : o.lead ≤ e.lead

-- the ports lie on the sheet, and the lead is at most what a first walk costs
pub record IsOrigin (o : Origin) : Type 0 where
  pub ports : RectIsOnSheet o.ports
  pub lead : o.lead ≤ 300000000000000000

-- the port lies on the sheet, and the lead is one of a stub and a connection cost
pub record IsSmallEntry (e : Entry) : Type 0 where
  pub port : PointIsOnSheet e.port
  pub lead : e.lead ≤ 5 * 10 ^ 9

-- each entry is covered by an origin
abbrev pub AreCovered : List Origin → List Entry → Type 0
AreCovered origins entries = All (λ e. Any (λ o. Covers o e) origins) entries
