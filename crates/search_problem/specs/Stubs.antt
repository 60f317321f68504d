-- Solids in an order in which those near a stub stand together.
use Rattle.std.specs.Prelude.{pos, ◌+ℤ◌, ◌≤ℤ◌, ℤ, List, All, AllPairs, IsPermutation}
use Rattle.plane_geom.specs.declared.rect.Solid.{Solid}
use Rattle.plane_geom.specs.Rect.{RectIsOnSheet}

-- no solid is wider
abbrev pub IsWidest : ℤ → List Solid → Type 0
IsWidest widest solids = All (λ s. s.rect.right ≤ℤ (s.rect.left +ℤ widest)) solids

-- solids on the sheet by rising left side, of which none is wider
pub record AreInOrder (solids : List Solid) (widest : ℤ) : Type 0 where
  pub on_sheet : All (λ s. RectIsOnSheet s.rect) solids
  pub rise : AllPairs (λ s t. s.rect.left ≤ℤ t.rect.left) solids
  pub wide : IsWidest widest solids
  pub low : pos 0 ≤ℤ widest
  pub high : widest ≤ℤ pos 4000000000

-- the lists have the same solids, in some order
abbrev pub AreSame : List Solid → List Solid → Type 0
AreSame xs ys = ∥ IsPermutation xs ys ∥₁
