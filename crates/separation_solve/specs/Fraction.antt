-- Fractions that are not too large.
use Rattle.std.specs.Prelude.{ℕ, ◌≤◌, ℤ, pos, ◌*ℤ◌, ◌≤ℤ◌}
use Rattle.separation_solve.specs.declared.fraction.Fraction.{Fraction}
use Rattle.separation_solve.specs.Reduced.{IsWithin}

-- the greatest sum of the weights of a bundle
abbrev pub most_weight : ℕ
most_weight = 3400000000

-- the fraction has a denominator that is not too large, and is not too far from 0
pub record IsLight (p : Fraction) : Type 0 where
  pub den : p.den ≤ most_weight
  pub within : IsWithin 10000000000 p.num p.den

-- the first fraction is not above the second
abbrev pub IsNotBeyond : Fraction → Fraction → Type 0
IsNotBeyond p q = (p.num *ℤ pos q.den) ≤ℤ (q.num *ℤ pos p.den)

-- a whole number as a fraction
abbrev pub whole : ℤ → Fraction
whole z = record { num = z; den = 1 }
