-- The places at which the solver begins.
use Rattle.std.specs.Prelude.{◌≡◌, ℕ, ◌+◌, ◌<◌, ℤ, pos, ◌≤ℤ◌, List, length, EachIndex}
use Rattle.separation_model.specs.declared.bundle.Bundle.{Bundle}
use Rattle.separation_solve.specs.declared.fraction.Fraction.{Fraction}
use Rattle.separation_model.specs.declared.bundle.Rule.{Rule}
use Rattle.separation_model.specs.Bundle.{int_at}
use Rattle.separation_solve.specs.Network.{IsKept, IsSpot, link_at, links_of, place_at}

-- places of the items and, last, of the wall, which is at 0, that keep all links of the bundle
pub record AreStartPlaces (b : Bundle) (gap : ℤ) (places : List Fraction) : Type 0 where
  pub count : length places ≡ length b.items.items + 1
  pub spots : EachIndex places (λ i. IsSpot (place_at places i))
  pub wall_num : (place_at places (length b.items.items)).num ≡ pos 0
  pub wall_den : (place_at places (length b.items.items)).den ≡ 1
  pub kept : EachIndex (links_of b gap) (λ j. IsKept places (link_at (links_of b gap) j))

-- each of the second numbers is at most the first one at its index
abbrev pub AreAtMost : List ℤ → List ℤ → Type 0
AreAtMost limits places = EachIndex places (λ i. int_at places i ≤ℤ int_at limits i)

-- the rule goes forward to a later item below `items`
pub record IsForward (items : ℕ) (rule : Rule) : Type 0 where
  pub forward : rule.left < rule.right
  pub within : rule.right < items
