-- The latest positions of a bundle: whole, with no fractions to the right of them.
use Rattle.std.specs.Prelude.{ℕ, ℤ, pos, ◌+ℤ◌, ◌*ℤ◌, ◌≤ℤ◌, List, length, replicate, EachIndex, slice_index}
use Rattle.separation_model.specs.declared.bundle.Bundle.{Bundle}
use Rattle.separation_model.specs.declared.bundle.Rule.{Rule}
use Rattle.separation_model.specs.Bundle.{MeetsBundle, asked, int_at}

-- the right item's whole place is at least as far on as the rule asks
abbrev pub IsRuleKept : ℤ → List ℤ → Rule → Type 0
IsRuleKept gap places rule = (int_at places rule.left +ℤ asked gap rule) ≤ℤ int_at places rule.right

-- no fractions that meet the bundle with the gap are to the right of the whole places
abbrev pub IsNoneBeyond : Bundle → ℤ → List ℤ → Type 0
IsNoneBeyond b gap places = (den : List ℕ) (nums : List ℤ) → MeetsBundle b gap den nums →
    EachIndex places (λ i. int_at nums i ≤ℤ (int_at places i *ℤ pos (slice_index den i)))

-- the whole places meet the bundle with the gap, and no fractions that meet it are to the right of them
pub record IsLatest (b : Bundle) (gap : ℤ) (places : List ℤ) : Type 0 where
  pub meets : MeetsBundle b gap (replicate (length b.items.items) 1) places
  pub none_beyond : IsNoneBeyond b gap places

-- no fractions meet the bundle with the gap
abbrev pub HasNoPositions : Bundle → ℤ → Type 0
HasNoPositions b gap = (den : List ℕ) (nums : List ℤ) → MeetsBundle b gap den nums → ⊥
