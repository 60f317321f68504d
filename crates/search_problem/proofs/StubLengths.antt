-- How long stubs are.
use Rattle.std.proofs.Common.{◌≡◌, ℕ, ◌≤◌, ap, arith}
use Rattle.std.proofs.lemmas.Int.{ints}
use Rattle.plane_geom.specs.declared.point.Point.{Point}
use Rattle.plane_geom.specs.declared.point.Dir.{Dir}
use Rattle.plane_geom.specs.declared.point.Dir.TheVariants.{East, South, West, North}
use Rattle.plane_geom.specs.Point.{PointIsOnSheet, forward}
use Rattle.walk_model.specs.declared.task.Choice.{Choice}
use Rattle.walk_model.specs.Choice.{IsChoice, stub_length}

short_way : (d : Dir) (n : ℕ) (p q : Point) → PointIsOnSheet p → PointIsOnSheet q → q ≡ forward d n p → n ≤ 4000000000
short_way East n p q a b e = let x = ap (λ (r : Point). r.x) e in omega (arith, ints, x, a.x.low, b.x.high)
short_way South n p q a b e = let y = ap (λ (r : Point). r.y) e in omega (arith, ints, y, a.y.low, b.y.high)
short_way West n p q a b e = let x = ap (λ (r : Point). r.x) e in omega (arith, ints, x, a.x.high, b.x.low)
short_way North n p q a b e = let y = ap (λ (r : Point). r.y) e in omega (arith, ints, y, a.y.high, b.y.low)

-- a stub has at most 4 * 10^9 steps
pub short_stub : (c : Choice) → IsChoice c → stub_length c ≤ 4000000000
short_stub c h = short_way c.dir (stub_length c) c.pin c.port h.pin h.port h.straight
