-- A straight segment meets a rectangle where one of its steps does.
use Rattle.std.proofs.Common.{◌≡◌, ℕ, ◌+◌, ◌-◌, ◌<◌, ℤ, pos, ◌+ℤ◌, ◌-ℤ◌, ◌≤ℤ◌, ◌<ℤ◌, arith}
use Rattle.std.proofs.lemmas.Int.{ints, clamps, by_lt_z}
use Rattle.std.proofs.Math.IntN.{negsuc}
use Rattle.plane_geom.specs.declared.point.Point.{Point}
use Rattle.plane_geom.specs.declared.point.Dir.{Dir}
use Rattle.plane_geom.specs.declared.point.Dir.TheVariants.{East, South, West, North}
use Rattle.plane_geom.specs.declared.rect.Rect.{Rect}
use Rattle.plane_geom.specs.Point.{forward}
use Rattle.plane_geom.specs.Rect.{Overlaps, Meets, SomeStepMeets}
use Rattle.plane_geom.proofs.Places.{halfway, overlap_ends}

-- how far the second number lies above the first
pub distance_up : (a b : ℤ) → a ≤ℤ b → (k : ℕ) × (a +ℤ pos k ≡ b)
distance_up (pos a) (pos b) h = (b - a, omega (arith, ints))
distance_up (pos a) (negsuc b) h = absurd (omega (arith, ints))
distance_up (negsuc a) (pos b) h = (b + a + 1, omega (arith, ints))
distance_up (negsuc a) (negsuc b) h = (a - b, omega (arith, ints))

-- walking up from x, one of n steps lies between low and high
step_up : (low high x : ℤ) (n : ℕ) → low <ℤ high → x <ℤ high → low <ℤ (x +ℤ pos n) → 0 < n → (k : ℕ) × (k < n) × (low ≤ℤ (x +ℤ pos k)) × ((x +ℤ pos k +ℤ pos 1) ≤ℤ high)
step_up low high x n h below above some = by_lt_z x low
    (λ l. let d = distance_up x low (omega (arith, ints)) in (d.0, omega (arith, ints, d.1), omega (arith, ints, d.1), omega (arith, ints, d.1)))
    (λ l. (0, some, omega (arith, ints), omega (arith, ints)))

-- walking down from x, one of n steps lies between low and high
step_down : (low high x : ℤ) (n : ℕ) → low <ℤ high → low <ℤ x → (x -ℤ pos n) <ℤ high → 0 < n → (k : ℕ) × (k < n) × (low ≤ℤ (x -ℤ pos k -ℤ pos 1)) × ((x -ℤ pos k) ≤ℤ high)
step_down low high x n h above below some = by_lt_z high x
    (λ l. let d = distance_up high x (omega (arith, ints)) in (d.0, omega (arith, ints, d.1), omega (arith, ints, d.1), omega (arith, ints, d.1)))
    (λ l. (0, some, omega (arith, ints), omega (arith, ints)))

-- on the axis that a segment runs along, and on the one that it stands still on
level : (low high z : ℤ) → Overlaps low high z z → (low <ℤ z) × (z <ℤ high)
level low high z o = let e = overlap_ends low high z z o in (omega (arith, ints, clamps, e.2), omega (arith, ints, clamps, e.1))

at_level : (low high z : ℤ) → low <ℤ z → z <ℤ high → Overlaps low high z z
at_level low high z h f = halfway low high z z (omega (arith, ints)) (omega (arith, ints, clamps)) (omega (arith, ints, clamps))

up_ends : (low high x : ℤ) (n : ℕ) → Overlaps low high x (x +ℤ pos n) → (low <ℤ high) × (x <ℤ high) × (low <ℤ (x +ℤ pos n))
up_ends low high x n o = let e = overlap_ends low high x (x +ℤ pos n) o in (e.0, omega (arith, ints, clamps, e.1), omega (arith, ints, clamps, e.2))

down_ends : (low high x : ℤ) (n : ℕ) → Overlaps low high x (x -ℤ pos n) → (low <ℤ high) × (low <ℤ x) × ((x -ℤ pos n) <ℤ high)
down_ends low high x n o = let e = overlap_ends low high x (x -ℤ pos n) o in (e.0, omega (arith, ints, clamps, e.2), omega (arith, ints, clamps, e.1))

-- a straight segment meets a rectangle only where one of its steps does
pub some_step : (r : Rect) (p : Point) (d : Dir) (n : ℕ) → 0 < n → Meets r p (forward d n p) → SomeStepMeets r p d n
some_step r p East n h m = let y = level _ _ _ m.y in let x = up_ends _ _ _ n m.x in let k = step_up _ _ _ n x.0 x.1 x.2 h in (k.0, k.1, (y.0, y.1, k.2, k.3))
some_step r p South n h m = let x = level _ _ _ m.x in let y = up_ends _ _ _ n m.y in let k = step_up _ _ _ n y.0 y.1 y.2 h in (k.0, k.1, (x.0, x.1, k.2, k.3))
some_step r p West n h m = let y = level _ _ _ m.y in let x = down_ends _ _ _ n m.x in let k = step_down _ _ _ n x.0 x.1 x.2 h in (k.0, k.1, (y.0, y.1, k.2, k.3))
some_step r p North n h m = let x = level _ _ _ m.x in let y = down_ends _ _ _ n m.y in let k = step_down _ _ _ n y.0 y.1 y.2 h in (k.0, k.1, (x.0, x.1, k.2, k.3))

-- a straight segment meets a rectangle wherever one of its steps does
pub from_step : (r : Rect) (p : Point) (d : Dir) (n : ℕ) → SomeStepMeets r p d n → Meets r p (forward d n p)
from_step r p East n (k, h, s) = record {
  x = halfway r.left r.right p.x (p.x +ℤ pos n) (omega (arith, ints, s.2, s.3)) (omega (arith, ints, clamps, s.3)) (omega (arith, ints, clamps, s.2));
  y = at_level _ _ _ s.0 s.1;
}
from_step r p South n (k, h, s) = record {
  x = at_level _ _ _ s.0 s.1;
  y = halfway r.top r.bottom p.y (p.y +ℤ pos n) (omega (arith, ints, s.2, s.3)) (omega (arith, ints, clamps, s.3)) (omega (arith, ints, clamps, s.2));
}
from_step r p West n (k, h, s) = record {
  x = halfway r.left r.right p.x (p.x -ℤ pos n) (omega (arith, ints, s.2, s.3)) (omega (arith, ints, clamps, s.3)) (omega (arith, ints, clamps, s.2));
  y = at_level _ _ _ s.0 s.1;
}
from_step r p North n (k, h, s) = record {
  x = at_level _ _ _ s.0 s.1;
  y = halfway r.top r.bottom p.y (p.y -ℤ pos n) (omega (arith, ints, s.2, s.3)) (omega (arith, ints, clamps, s.3)) (omega (arith, ints, clamps, s.2));
}
