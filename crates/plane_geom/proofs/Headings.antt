-- The heading of a straight segment leads from its one end to the other.
use Rattle.std.proofs.Common.{◌≡◌, ℕ, ◌<◌, ℤ, pos, ◌+ℤ◌, ◌-ℤ◌, ◌≤ℤ◌, ◌<ℤ◌, true, false, refl, ap, ◌∙◌, inl, inr, arith}
use lib.Signed.{lt_z}
use Rattle.std.proofs.lemmas.Int.{ints, by_lt_z}
use Rattle.plane_geom.specs.declared.point.Point.{Point}
use Rattle.plane_geom.specs.declared.point.Dir.{Dir}
use Rattle.plane_geom.specs.declared.point.Dir.TheVariants.{East, South, West, North}
use Rattle.plane_geom.specs.Point.{IsStraight, distance, forward, heading}

-- what the tests of a heading answer
less : (a b : ℤ) → a <ℤ b → lt_z a b ≡ true
less a b h = grind (arith, ints)

not_less : (a b : ℤ) → b ≤ℤ a → lt_z a b ≡ false
not_less a b h = grind (arith, ints)

-- points with equal coordinates are equal
pub same_point : (p q : Point) → p.x ≡ q.x → p.y ≡ q.y → p ≡ q
same_point p q x y = ap (λ (a : ℤ). record { x = a; y = p.y }) x ∙ ap (λ (b : ℤ). record { x = q.x; y = b }) y

-- a straight segment leads from the first point to the second
pub straight_end : (p q : Point) → IsStraight p q → forward (heading p q) (distance p q) p ≡ q
straight_end p q (inl x) = by_lt_z p.y q.y
    (λ l. rw (not_less p.x q.x (omega (arith, ints)), not_less q.x p.x (omega (arith, ints)), less _ _ l) (same_point _ q x (omega (arith, ints))))
    (λ l. rw (not_less p.x q.x (omega (arith, ints)), not_less q.x p.x (omega (arith, ints)), not_less _ _ l) (same_point _ q x (omega (arith, ints))))
straight_end p q (inr y) = by_lt_z p.x q.x
    (λ l. rw (less _ _ l) (same_point _ q (omega (arith, ints)) y))
    (λ l. by_lt_z q.x p.x
    (λ m. rw (not_less _ _ l, less _ _ m) (same_point _ q (omega (arith, ints)) y))
    (λ m. rw (not_less _ _ l, not_less _ _ m, not_less p.y q.y (omega (arith, ints))) (same_point _ q (omega (arith, ints)) (omega (arith, ints)))))

-- and of steps in one direction the segment has their heading and their number
pub forward_straight : (d : Dir) (n : ℕ) (p : Point) → IsStraight p (forward d n p)
forward_straight East n p = inr refl
forward_straight South n p = inl refl
forward_straight West n p = inr refl
forward_straight North n p = inl refl

pub forward_distance : (d : Dir) (n : ℕ) (p : Point) → distance p (forward d n p) ≡ n
forward_distance East n p = omega (arith, ints)
forward_distance South n p = omega (arith, ints)
forward_distance West n p = omega (arith, ints)
forward_distance North n p = omega (arith, ints)

pub forward_heading : (d : Dir) (n : ℕ) (p : Point) → 0 < n → heading p (forward d n p) ≡ d
forward_heading East n p h = rw (less p.x (p.x +ℤ pos n) (omega (arith, ints))) refl
forward_heading South n p h = rw (not_less p.x p.x (omega (arith, ints)), less p.y (p.y +ℤ pos n) (omega (arith, ints))) refl
forward_heading West n p h = rw (not_less p.x (p.x -ℤ pos n) (omega (arith, ints)), less (p.x -ℤ pos n) p.x (omega (arith, ints))) refl
forward_heading North n p h = rw (not_less p.x p.x (omega (arith, ints)), not_less p.y (p.y -ℤ pos n) (omega (arith, ints))) refl
