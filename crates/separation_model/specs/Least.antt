-- Least positions of a bundle.
use Rattle.std.specs.Prelude.{ℕ, ◌/◌, ◌<◌, ℤ, pos, ◌-ℤ◌, ◌*ℤ◌, ◌≤ℤ◌, List, length, replicate, slice_index}
use Rattle.separation_model.specs.declared.bundle.Item.{Item}
use Rattle.separation_model.specs.declared.bundle.Bundle.{Bundle}
use Rattle.separation_model.specs.Sum.{sum_below, product}
use Rattle.separation_model.specs.Bundle.{MeetsBundle, item_at, int_at}

-- the square of a number
abbrev pub square : ℤ → ℤ
square z = z *ℤ z

-- the weighted sum of squared displacements of the positions numerator / common, over the square of the common denominator
abbrev pub squared_displacement : List Item → ℕ → (ℕ → ℤ) → ℤ
squared_displacement items common numerator =
    sum_below (length items) (λ i. let item = item_at items i in
    pos item.weight *ℤ square (numerator i -ℤ (pos common *ℤ item.want)))

-- the numerator of a position over the product of all denominators
abbrev pub over_product : List ℕ → List ℤ → ℕ → ℤ
over_product den nums i = int_at nums i *ℤ pos (product den / slice_index den i)

-- the positions meet the bundle, and no fractions that meet it have a lower weighted sum of squared displacements
pub record IsLeast (b : Bundle) (gap : ℤ) (den : List ℕ) (nums : List ℤ) : Type 0 where
  pub meets : MeetsBundle b gap den nums
  pub least : (q : ℕ) (other : List ℤ) → 0 < q → MeetsBundle b gap (replicate (length b.items.items) q) other →
      (square (pos q) *ℤ squared_displacement b.items.items (product den) (over_product den nums)) ≤ℤ
      (square (pos (product den)) *ℤ squared_displacement b.items.items q (int_at other))
