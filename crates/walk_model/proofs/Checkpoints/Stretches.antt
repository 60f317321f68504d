-- The number of a point on a stretch.
use Rattle.std.specs.Bool.{then_some}
use Rattle.std.proofs.Common.{◌≡◌, ◌↔◌, Bool, true, false, IsTrue, Some, ℕ, ◌+◌, ◌-◌, ◌≤◌, max, ◌-ℤ◌, unsigned_abs, refl, sym, ap, ◌∙◌, arith}
use Rattle.std.proofs.lemmas.Int.{ints}
use Rattle.plane_geom.specs.declared.point.Point.{Point}
use Rattle.plane_geom.specs.declared.point.Dir.{Dir}
use Rattle.plane_geom.specs.declared.point.Dir.TheVariants.{East, South, West, North}
use Rattle.plane_geom.specs.Point.{PointIsOnSheet, distance, forward}
use Rattle.walk_model.specs.declared.stretch.Stretch.{Stretch}
use Rattle.walk_model.specs.Stretch.{IsPointOf}

-- where both ends of a stretch are on the sheet, so are its points
pub between_on_sheet : (p : Point) (d : Dir) (n k : ℕ) → k ≤ n → PointIsOnSheet p → PointIsOnSheet (forward d n p) → PointIsOnSheet (forward d k p)
between_on_sheet p East n k h from to = record { x = record { low = omega (arith, ints, from.x.low); high = omega (arith, ints, to.x.high) }; y = from.y }
between_on_sheet p South n k h from to = record { x = from.x; y = record { low = omega (arith, ints, from.y.low); high = omega (arith, ints, to.y.high) } }
between_on_sheet p West n k h from to = record { x = record { low = omega (arith, ints, to.x.low); high = omega (arith, ints, from.x.high) }; y = from.y }
between_on_sheet p North n k h from to = record { x = from.x; y = record { low = omega (arith, ints, to.y.low); high = omega (arith, ints, from.y.high) } }

-- the greater of the two differences from a point n steps on is n
pub difference-forward : (p : Point) (d : Dir) (n : ℕ) → max (unsigned_abs (p.x -ℤ (forward d n p).x)) (unsigned_abs (p.y -ℤ (forward d n p).y)) ≡ n
difference-forward p East n = omega (arith, ints)
difference-forward p South n = omega (arith, ints)
difference-forward p West n = omega (arith, ints)
difference-forward p North n = omega (arith, ints)

-- a point is no step away from itself
pub distance_same : (p : Point) → distance p p ≡ 0
distance_same p = omega (arith, ints)

-- a point is on the stretch as many steps on as the greater of its two differences, or nowhere
pub place_of_point : (s : Stretch) (k n : ℕ) (p : Point) → n ≡ max (unsigned_abs (s.start.x -ℤ p.x)) (unsigned_abs (s.start.y -ℤ p.y)) → IsPointOf s k p → k - s.number ≡ n
place_of_point s k n p e h =
    sym (difference-forward s.start s.dir (k - s.number)) ∙ rw (h.at) (sym e)

-- what is answered where the stretch has a point n steps on
pub number_answer : (s : Stretch) (n k : ℕ) (p : Point) (b : Bool) → n ≤ s.steps → n ≡ max (unsigned_abs (s.start.x -ℤ p.x)) (unsigned_abs (s.start.y -ℤ p.y)) → (IsTrue b ↔ (forward s.dir n s.start ≡ p)) → (then_some b (s.number + n) ≡ Some k) ↔ IsPointOf s k p
number_answer s n k p true h e there = (
  λ found. let same : s.number + n ≡ k = cc in record {
    begun = omega arith;
    within = omega arith;
    at = ap (λ m. forward s.dir m s.start) (omega (arith, same)) ∙ there.0 refl;
  },
  λ is. let place = place_of_point s k n p e is in ap Some (omega (arith, place, is.begun)),
)
number_answer s n k p false h e there = (
  λ found. cc,
  λ is. let no : false ≡ true = there.1 (ap (λ m. forward s.dir m s.start) (sym (place_of_point s k n p e is)) ∙ is.at) in cc,
)
