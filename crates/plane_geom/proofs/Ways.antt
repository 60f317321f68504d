-- The nearest point of a rectangle, and ways through it.
use Rattle.std.proofs.Common.{◌≡◌, ◌+◌, ◌≤◌, ℤ, pos, ◌-ℤ◌, ◌≤ℤ◌, refl, arith}
use Rattle.std.specs.Int.RustNames.{unsigned_abs}
use Rattle.std.proofs.lemmas.Int.{ints, clamps}
use Rattle.std.specs.Int.{int_min, int_max}
use Rattle.plane_geom.specs.declared.point.Point.{Point}
use Rattle.plane_geom.specs.declared.rect.Rect.{Rect}
use Rattle.plane_geom.specs.Point.{IsCoordinate, PointIsOnSheet, distance}
use Rattle.plane_geom.specs.Rect.{IsLeastThrough, IsNearestPoint, RectIsOnSheet, IsOnTheWay}

-- the number of a range that is nearest to another
pub nearest_on_way : (low z high m n : ℤ) → low ≤ℤ high → m ≡ int_max z low → n ≡ int_min m high → IsOnTheWay low z high n
nearest_on_way low z high m n h e f = record {
  from = omega (arith, ints, clamps);
  to = omega (arith, ints, clamps);
  between = λ other g k. omega (arith, ints, clamps);
}

-- a number between coordinates is one
pub between_coordinates : (low z high : ℤ) → IsCoordinate low → IsCoordinate high → low ≤ℤ z → z ≤ℤ high → IsCoordinate z
between_coordinates low z high h k f g = record { low = omega (arith, ints, h.low); high = omega (arith, ints, k.high) }

pub nearest_on_sheet : (r : Rect) (a n : Point) → RectIsOnSheet r → IsNearestPoint r a n → PointIsOnSheet n
nearest_on_sheet r a n s h = record {
  x = between_coordinates r.left n.x r.right s.left s.right h.x.from h.x.to;
  y = between_coordinates r.top n.y r.bottom s.top s.bottom h.y.from h.y.to;
}

-- a way by a third number is no shorter
triangle : (a b c : ℤ) → unsigned_abs (a -ℤ c) ≤ unsigned_abs (a -ℤ b) + unsigned_abs (b -ℤ c)
triangle a b c = omega (arith, ints)

-- the shortest way through a rectangle goes by its point that is nearest to the begin
pub through_nearest : (r : Rect) (a b n : Point) → IsNearestPoint r a n → IsLeastThrough r a b (pos (distance a n + distance n b))
through_nearest r a b n h = record {
  through = n;
  within = record { left = h.x.from; right = h.x.to; top = h.y.from; bottom = h.y.to };
  reached = refl;
  least = λ p w.
      let on_x = h.x.between p.x w.left w.right in
      let on_y = h.y.between p.y w.top w.bottom in
      let rest_x = triangle n.x p.x b.x in
      let rest_y = triangle n.y p.y b.y in
      let short : distance a n + distance n b ≤ distance a p + distance p b = omega arith in
      omega (arith, ints, short);
}
