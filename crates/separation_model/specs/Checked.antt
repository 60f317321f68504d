-- The conditions of a certificate, one item and one rule at a time. No public clause cites this module; `Certified` states what is promised.
use Rattle.std.specs.Prelude.{◌≡◌, ◌≢◌, ℕ, ◌<◌, ◌^◌, ℤ, pos, ◌+ℤ◌, ◌≤ℤ◌, List, length, All, EachIndex, slice_index}
use Rattle.separation_model.specs.declared.bundle.Item.{Item}
use Rattle.separation_model.specs.declared.bundle.Rule.{Rule}
use Rattle.separation_model.specs.declared.bundle.Bundle.{Bundle}
use Rattle.separation_model.specs.declared.bundle.Solution.{Solution}
use Rattle.separation_model.specs.Bundle.{IsWithinLimits, item_at, rule_at, int_at, slack}
use Rattle.separation_model.specs.Certified.{IsRuleTight, IsLimitTight, IsSmall, IsBalanced, all_multipliers}

-- each list of the solution has the length that the bundle requires
pub record HasLengths (b : Bundle) (s : Solution) : Type 0 where
  pub dens : length s.den.items ≡ length b.items.items
  pub places : length s.pos.items ≡ length b.items.items
  pub mults : length s.mult.items ≡ length b.rules.items
  pub lows : length s.low.items ≡ length b.items.items
  pub highs : length s.high.items ≡ length b.items.items

-- not negative, and not too large
pub record IsMultiplier (m : ℤ) : Type 0 where
  pub sign : pos 0 ≤ℤ m
  pub small : m ≤ℤ pos (2 ^ 100)

-- all are multipliers
pub record HasMultipliers (s : Solution) : Type 0 where
  pub mults : All IsMultiplier s.mult.items
  pub lows : All IsMultiplier s.low.items
  pub highs : All IsMultiplier s.high.items

-- the first is at most the second, and equal to it unless the multiplier is 0
pub record IsMet (least most m : ℤ) : Type 0 where
  pub ordered : least ≤ℤ most
  pub tight : m ≢ pos 0 → least ≡ most

-- the item is at a fraction within its limits that is not too large, and a limit's multiplier is 0 unless it is at that limit
pub record KeepsLimits (item : Item) (den : ℕ) (num low high : ℤ) : Type 0 where
  pub positive : 0 < den
  pub within : IsWithinLimits item den num
  pub small : IsSmall num
  pub tight : IsLimitTight item den num low high

-- the item at the index keeps its limits in the solution
abbrev pub KeepsLimitsAt : Bundle → Solution → ℕ → Type 0
KeepsLimitsAt b s i = KeepsLimits (item_at b.items.items i) (slice_index s.den.items i) (int_at s.pos.items i) (int_at s.low.items i) (int_at s.high.items i)

-- the lists have their lengths, no multiplier is negative or too large, and all items keep their limits
pub record KeepsAllLimits (b : Bundle) (s : Solution) : Type 0 where
  pub lengths : HasLengths b s
  pub multipliers : HasMultipliers s
  pub limits : EachIndex b.items.items (KeepsLimitsAt b s)

-- the positions meet the rule, and its multiplier is 0 unless they meet it exactly
pub record KeepsRule (gap : ℤ) (den : List ℕ) (nums : List ℤ) (rule : Rule) (m : ℤ) : Type 0 where
  pub met : pos 0 ≤ℤ slack gap den nums rule
  pub tight : IsRuleTight gap den nums rule m

-- the solution keeps the rule at the index
abbrev pub KeepsRuleAt : Bundle → Solution → ℕ → Type 0
KeepsRuleAt b s j = KeepsRule s.gap s.den.items s.pos.items (rule_at b.rules.items j) (int_at s.mult.items j)

-- the multipliers of the item balance its displacement, and their sum is not too large
pub record IsAtRest (b : Bundle) (s : Solution) (i : ℕ) : Type 0 where
  pub small : all_multipliers b s i ≤ℤ pos (2 ^ 126)
  pub balanced : IsBalanced b s i

-- the two numbers are the sums of the multipliers of an item's rules, whose total is not too large
pub record IsPush (left right from_left from_right : ℤ) : Type 0 where
  pub left_is : from_left ≡ left
  pub right_is : from_right ≡ right
  pub left_low : pos 0 ≤ℤ from_left
  pub right_low : pos 0 ≤ℤ from_right
  pub small : (from_left +ℤ from_right) ≤ℤ pos (2 ^ 126)
