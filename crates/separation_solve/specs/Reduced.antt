-- Fractions in lowest terms.
use Rattle.std.specs.Prelude.{◌≡◌, ℕ, ◌*◌, ◌<◌, ℤ, pos, neg_ℤ, ◌+ℤ◌, ◌*ℤ◌, ◌≤ℤ◌}

-- g divides both numbers, and is a sum of multiples of them
pub record IsGreatestDivisor (a b g : ℕ) : Type 0 where
  pub a_part : ℕ
  pub b_part : ℕ
  pub a_is : a ≡ g * a_part
  pub b_is : b ≡ g * b_part
  pub a_times : ℤ
  pub b_times : ℤ
  pub sum : (a_times *ℤ pos a) +ℤ (b_times *ℤ pos b) ≡ pos g

-- the fraction num / den is in lowest terms: 1 is a sum of multiples of both
pub record IsReduced (num : ℤ) (den : ℕ) : Type 0 where
  pub positive : 0 < den
  pub num_times : ℤ
  pub den_times : ℤ
  pub one : (num_times *ℤ num) +ℤ (den_times *ℤ pos den) ≡ pos 1

-- the absolute value of the fraction is at most this
pub record IsWithin (bound : ℕ) (num : ℤ) (den : ℕ) : Type 0 where
  pub low : (neg_ℤ (pos bound) *ℤ pos den) ≤ℤ num
  pub high : num ≤ℤ (pos bound *ℤ pos den)
