-- Sums and products of whole numbers.
use Rattle.std.specs.Prelude.{ℕ, zero, suc, ◌*◌, ◌==◌, ℤ, pos, ◌+ℤ◌, List, [], ◌∷◌, if◌then◌else◌}

-- f 0 + f 1 + .. + f (n - 1)
abbrev pub sum_below : ℕ → (ℕ → ℤ) → ℤ
sum_below zero f = pos 0
sum_below (suc n) f = sum_below n f +ℤ f n

-- the product of the numbers
abbrev pub product : List ℕ → ℕ
product [] = 1
product (n ∷ ns) = n * product ns

-- the number if the two indexes are equal, otherwise 0
abbrev pub here : ℕ → ℕ → ℤ → ℤ
here k i z = if k == i then z else pos 0

-- the sum of the numbers whose elements have their end at the index
abbrev pub sum_at : {A : Type 0} → (A → ℕ) → ℕ → List A → List ℤ → ℤ
sum_at end i [] zs = pos 0
sum_at end i (x ∷ xs) [] = pos 0
sum_at end i (x ∷ xs) (z ∷ zs) = here (end x) i z +ℤ sum_at end i xs zs
