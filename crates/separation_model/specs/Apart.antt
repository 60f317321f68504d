-- Two fractions on the sheet, and their distance.
use Rattle.std.specs.Prelude.{◌≡◌, ℕ, ◌+◌, ◌*◌, ◌<◌, ℤ, pos, negsuc, ◌+ℤ◌, ◌-ℤ◌, ◌*ℤ◌, ◌≤ℤ◌}

-- the fraction num / den is on the sheet
pub record FractionIsOnSheet (den : ℕ) (num : ℤ) : Type 0 where
  pub positive : 0 < den
  pub low : (negsuc 1999999999 *ℤ pos den) ≤ℤ num
  pub high : num ≤ℤ (pos 2000000000 *ℤ pos den)

-- by how much the distance from p / d to the right to q / e exceeds what is asked, over the product of the denominators
abbrev pub fraction_slack : ℤ → ℕ → ℤ → ℕ → ℤ → ℤ
fraction_slack p d q e asked = (q *ℤ pos d) -ℤ (p *ℤ pos e) -ℤ (asked *ℤ pos d *ℤ pos e)

-- the whole part of p / d, counted from the sheet's start, and the remainder
pub record IsSplit (p : ℤ) (d whole rest : ℕ) : Type 0 where
  pub sum : pos (whole * d + rest) ≡ p +ℤ (pos 2000000000 *ℤ pos d)
  pub rest_below : rest < d
