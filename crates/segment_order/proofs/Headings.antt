-- Which coordinates agree along a straight segment, by its heading.
use Rattle.std.proofs.Common.{◌≡◌, ℤ, ◌≤ℤ◌, ◌<ℤ◌, true, false, inl, inr, arith}
use Rattle.std.specs.Prelude.{int_lt}
use Rattle.std.proofs.lemmas.Int.{ints, by_lt_z}
use Rattle.plane_geom.specs.declared.point.Point.{Point}
use Rattle.plane_geom.specs.declared.point.Dir.{Dir}
use Rattle.plane_geom.specs.declared.point.Dir.TheVariants.{East, South, West, North}
use Rattle.plane_geom.specs.Point.{IsStraight, heading}

-- one goes straight from the first point to the second in the direction
abbrev pub Goes : Dir → Point → Point → Type 0
Goes East p q = (p.x <ℤ q.x) × (p.y ≡ q.y)
Goes South p q = (p.y <ℤ q.y) × (p.x ≡ q.x)
Goes West p q = (q.x <ℤ p.x) × (p.y ≡ q.y)
Goes North p q = (q.y ≤ℤ p.y) × (p.x ≡ q.x)

less : (a b : ℤ) → a <ℤ b → int_lt a b ≡ true
less a b h = grind (arith, ints)

not_less : (a b : ℤ) → b ≤ℤ a → int_lt a b ≡ false
not_less a b h = grind (arith, ints)

upright : (p q : Point) → p.x ≡ q.x → Goes (heading p q) p q
upright p q x = by_lt_z p.y q.y
    (λ l. rw (not_less p.x q.x (omega (arith, ints)), not_less q.x p.x (omega (arith, ints)), less _ _ l) (l, x))
    (λ l. rw (not_less p.x q.x (omega (arith, ints)), not_less q.x p.x (omega (arith, ints)), not_less _ _ l) (l, x))

pub goes : (p q : Point) → IsStraight p q → Goes (heading p q) p q
goes p q (inl x) = upright p q x
goes p q (inr y) = by_lt_z p.x q.x
    (λ l. rw (less _ _ l) (l, y))
    (λ l. by_lt_z q.x p.x
    (λ m. rw (not_less _ _ l, less _ _ m) (m, y))
    (λ m. upright p q (omega (arith, ints))))
