-- Bundles, and the conditions on their positions.
use Rattle.std.specs.Prelude.{◌≡◌, ℕ, false, ◌<◌, ◌≤◌, ℤ, pos, ◌*ℤ◌, ◌≤ℤ◌, List, length, All, EachIndex, slice_index, slice_index_or, if◌then◌else◌}
use Rattle.plane_geom.specs.Point.{IsCoordinate}
use Rattle.separation_model.specs.declared.bundle.Item.{Item}
use Rattle.separation_model.specs.declared.bundle.Rule.{Rule}
use Rattle.separation_model.specs.declared.bundle.Bundle.{Bundle}
use Rattle.separation_model.specs.declared.bundle.Solution.{Solution}
use Rattle.separation_model.specs.Apart.{FractionIsOnSheet, fraction_slack}

-- the value that is read past the last item: an item at 0
abbrev pub no_item : Item
no_item = record { want = pos 0; lo = pos 0; hi = pos 0; weight = 0 }

-- the item at the index
abbrev pub item_at : List Item → ℕ → Item
item_at items i = slice_index_or items i no_item

-- the value that is read past the last rule: a rule of the first item with itself
abbrev pub no_rule : Rule
no_rule = record { left = 0; right = 0; spaced = false }

-- the rule at the index
abbrev pub rule_at : List Rule → ℕ → Rule
rule_at rules j = slice_index_or rules j no_rule

-- the number at the index; past the end, 0
abbrev pub int_at : List ℤ → ℕ → ℤ
int_at zs i = slice_index_or zs i (pos 0)

-- an item with limits on the sheet, a want within them, and a weight from 1 to 4
pub record IsItem (item : Item) : Type 0 where
  pub lo : IsCoordinate item.lo
  pub hi : IsCoordinate item.hi
  pub want_low : item.lo ≤ℤ item.want
  pub want_high : item.want ≤ℤ item.hi
  pub weight_low : 1 ≤ item.weight
  pub weight_high : item.weight ≤ 4

-- a rule that goes forward to a later item, whose want is at least that of the left item
pub record IsRule (items : List Item) (rule : Rule) : Type 0 where
  pub forward : rule.left < rule.right
  pub within : rule.right < length items
  pub ordered : (item_at items rule.left).want ≤ℤ (item_at items rule.right).want

-- the most items that a bundle may have
abbrev pub most_items : ℕ
most_items = 850000000

-- a bundle that calls accept: not too many items, all rules go forward, and the wanted gap is from 0 to 10^6
pub record IsBundle (b : Bundle) : Type 0 where
  pub few : length b.items.items ≤ most_items
  pub items : All IsItem b.items.items
  pub rules : All (IsRule b.items.items) b.rules.items
  pub wanted_low : pos 0 ≤ℤ b.wanted
  pub wanted_high : b.wanted ≤ℤ pos 1000000

-- a gap from 0 to the greatest one
pub record IsGapUpTo (most gap : ℤ) : Type 0 where
  pub low : pos 0 ≤ℤ gap
  pub high : gap ≤ℤ most

-- the least distance that a rule asks of its items, for a gap
abbrev pub asked : ℤ → Rule → ℤ
asked gap rule = if rule.spaced then gap else pos 0

-- the fraction num / den is within the item's limits
pub record IsWithinLimits (item : Item) (den : ℕ) (num : ℤ) : Type 0 where
  pub low : (item.lo *ℤ pos den) ≤ℤ num
  pub high : num ≤ℤ (item.hi *ℤ pos den)

-- by how much the distance of the rule's items exceeds what it asks, over the product of their denominators
abbrev pub slack : ℤ → List ℕ → List ℤ → Rule → ℤ
slack gap den nums rule = fraction_slack (int_at nums rule.left) (slice_index den rule.left) (int_at nums rule.right) (slice_index den rule.right) (asked gap rule)

-- the fractions are positions of the items that meet all limits and, with the gap, all rules
pub record MeetsBundle (b : Bundle) (gap : ℤ) (den : List ℕ) (nums : List ℤ) : Type 0 where
  pub dens : length den ≡ length b.items.items
  pub places : length nums ≡ length b.items.items
  pub positive : All (λ d. 0 < d) den
  pub limits : EachIndex b.items.items (λ i. IsWithinLimits (item_at b.items.items i) (slice_index den i) (int_at nums i))
  pub rules : All (λ rule. pos 0 ≤ℤ slack gap den nums rule) b.rules.items

-- the position of the item at the index is on the sheet
abbrev pub ItemIsOnSheet : Solution → ℕ → Type 0
ItemIsOnSheet s i = FractionIsOnSheet (slice_index s.den.items i) (int_at s.pos.items i)

-- the solution puts both items of the rule on the sheet, for a gap from 0 to 10^6
pub record PlacesRule (s : Solution) (rule : Rule) : Type 0 where
  pub same : length s.den.items ≡ length s.pos.items
  pub left_within : rule.left < length s.pos.items
  pub right_within : rule.right < length s.pos.items
  pub left : ItemIsOnSheet s rule.left
  pub right : ItemIsOnSheet s rule.right
  pub gap : IsGapUpTo (pos 1000000) s.gap

-- all positions of the solution are on the sheet
pub record SolutionIsOnSheet (s : Solution) : Type 0 where
  pub same : length s.den.items ≡ length s.pos.items
  pub each : EachIndex s.pos.items (ItemIsOnSheet s)
