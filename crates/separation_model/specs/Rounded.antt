-- Positions rounded down to whole coordinates.
use Rattle.std.specs.Prelude.{ℕ, ℤ, pos, ◌+ℤ◌, ◌*ℤ◌, ◌≤ℤ◌, ◌<ℤ◌, List, [], ◌∷◌}
use Rattle.std.specs.Int.{int_div_euclid}

-- the whole number is the fraction num / den rounded down: it is not above the fraction, and the next one is
pub record IsRoundedDown (num : ℤ) (den : ℕ) (whole : ℤ) : Type 0 where
  pub not_above : (whole *ℤ pos den) ≤ℤ num
  pub next_above : num <ℤ ((whole +ℤ pos 1) *ℤ pos den)

-- the fraction num / den rounded down, toward minus infinity; this repeats the code, and `rounded_down_is_below` ties it to `IsRoundedDown`
abbrev pub rounded_down : ℤ → ℕ → ℤ
rounded_down num den = int_div_euclid num (pos den)

-- all positions rounded down
abbrev pub all_rounded_down : List ℕ → List ℤ → List ℤ
all_rounded_down [] nums = []
all_rounded_down (den ∷ dens) [] = []
all_rounded_down (den ∷ dens) (num ∷ nums) = rounded_down num den ∷ all_rounded_down dens nums
