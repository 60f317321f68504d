-- Multipliers that show positions to be least.
use Rattle.std.specs.Prelude.{◌≡◌, ◌≢◌, ℕ, ◌^◌, ◌≤◌, ℤ, pos, ◌+ℤ◌, ◌-ℤ◌, ◌*ℤ◌, ◌≤ℤ◌, unsigned_abs, List, length, All, EachIndex, slice_index}
use Rattle.separation_model.specs.declared.bundle.Item.{Item}
use Rattle.separation_model.specs.declared.bundle.Rule.{Rule}
use Rattle.separation_model.specs.declared.bundle.Bundle.{Bundle}
use Rattle.separation_model.specs.declared.bundle.Solution.{Solution}
use Rattle.separation_model.specs.Sum.{sum_at}
use Rattle.separation_model.specs.Bundle.{MeetsBundle, item_at, int_at, rule_at, slack}

-- the sum of the multipliers of the rules in which the item at the index is on the right
abbrev pub from_left : ℕ → List Rule → List ℤ → ℤ
from_left = sum_at (λ r. r.right)

-- the sum of the multipliers of the rules in which it is on the left
abbrev pub from_right : ℕ → List Rule → List ℤ → ℤ
from_right = sum_at (λ r. r.left)

-- a rule's multiplier is 0, or the distance of its items is exactly what it asks, over one denominator
abbrev pub IsRuleTight : ℤ → List ℕ → List ℤ → Rule → ℤ → Type 0
IsRuleTight gap den nums rule m =
    m ≢ pos 0 → (slack gap den nums rule ≡ pos 0) × (slice_index den rule.left ≡ slice_index den rule.right)

-- the multipliers of an item's limits are 0 unless it is at the limit
pub record IsLimitTight (item : Item) (den : ℕ) (num low high : ℤ) : Type 0 where
  pub at_low : low ≢ pos 0 → num ≡ item.lo *ℤ pos den
  pub at_high : high ≢ pos 0 → num ≡ item.hi *ℤ pos den

-- twice the weighted displacement of the item at the index equals the push of the multipliers
abbrev pub IsBalanced : Bundle → Solution → ℕ → Type 0
IsBalanced b s i =
    let item = item_at b.items.items i in
    (pos 2 *ℤ pos item.weight *ℤ (int_at s.pos.items i -ℤ (pos (slice_index s.den.items i) *ℤ item.want)))
    ≡ (from_left i b.rules.items s.mult.items -ℤ from_right i b.rules.items s.mult.items)
    +ℤ int_at s.low.items i -ℤ int_at s.high.items i

-- the positions meet the bundle, and the multipliers show that they are least
pub record IsCertified (b : Bundle) (s : Solution) : Type 0 where
  pub meets : MeetsBundle b s.gap s.den.items s.pos.items
  pub mults : length s.mult.items ≡ length b.rules.items
  pub lows : length s.low.items ≡ length b.items.items
  pub highs : length s.high.items ≡ length b.items.items
  pub mult_sign : All (λ m. pos 0 ≤ℤ m) s.mult.items
  pub low_sign : All (λ m. pos 0 ≤ℤ m) s.low.items
  pub high_sign : All (λ m. pos 0 ≤ℤ m) s.high.items
  pub tight_rules : EachIndex b.rules.items (λ j. IsRuleTight s.gap s.den.items s.pos.items (rule_at b.rules.items j) (int_at s.mult.items j))
  pub tight_limits : EachIndex b.items.items (λ i. IsLimitTight (item_at b.items.items i) (slice_index s.den.items i) (int_at s.pos.items i) (int_at s.low.items i) (int_at s.high.items i))
  pub balanced : EachIndex b.items.items (IsBalanced b s)

-- the absolute value is at most 2^100
abbrev pub IsSmall : ℤ → Type 0
IsSmall z = unsigned_abs z ≤ 2 ^ 100

-- the sum of all multipliers of the item at the index
abbrev pub all_multipliers : Bundle → Solution → ℕ → ℤ
all_multipliers b s i =
    (from_left i b.rules.items s.mult.items +ℤ from_right i b.rules.items s.mult.items)
    +ℤ int_at s.low.items i +ℤ int_at s.high.items i

-- the solution is for a gap from 0 to the wanted one, its numbers are not too large, and it is certified
pub record IsAccepted (b : Bundle) (s : Solution) : Type 0 where
  pub gap_low : pos 0 ≤ℤ s.gap
  pub gap_high : s.gap ≤ℤ b.wanted
  pub small_places : All IsSmall s.pos.items
  pub small_mults : All IsSmall s.mult.items
  pub small_lows : All IsSmall s.low.items
  pub small_highs : All IsSmall s.high.items
  pub small_sums : EachIndex b.items.items (λ i. all_multipliers b s i ≤ℤ pos (2 ^ 126))
  pub certified : IsCertified b s
