-- Sums of numbers beside the parts of a list.
use Rattle.std.proofs.Common.{◌≡◌, ◌≢◌, ℕ, zero, suc, ◌+◌, ◌<◌, ◌≤◌, ℤ, pos, ◌+ℤ◌, ◌≤ℤ◌, List, [], ◌∷◌, ◌++◌, length, map, All, ⊎_elim, arith, refl, ap, sym, ◌∙◌}
use Rattle.std.proofs.lemmas.Bool.{cases_eq}
use Rattle.std.proofs.lemmas.Int.{ints}
use Rattle.std.proofs.lemmas.List.Elements.{All-head, All-tail}
use Rattle.separation_model.specs.Bundle.{int_at}
use Rattle.separation_model.specs.Sum.{sum_at, sum_below}
use Rattle.separation_solve.specs.Network.{total_flow}
use Rattle.separation_model.proofs.Arithmetic.Exchange.{here_other, here_same}
use Rattle.separation_solve.proofs.Networks.LinkLists.{numbered}

pub sum_at-append : {A : Type 0} (end : A → ℕ) (i : ℕ) (xs ys : List A) (zs ws : List ℤ) → length xs ≡ length zs → sum_at end i (xs ++ ys) (zs ++ ws) ≡ sum_at end i xs zs +ℤ sum_at end i ys ws
sum_at-append end i [] ys [] ws e = omega (arith, ints)
sum_at-append end i [] ys (z ∷ zs) ws e = absurd (omega arith)
sum_at-append end i (x ∷ xs) ys [] ws e = absurd (omega arith)
sum_at-append end i (x ∷ xs) ys (z ∷ zs) ws e = omega (arith, ints, sum_at-append end i xs ys zs ws (omega arith))

pub sum_at-map : {A B : Type 0} (end : B → ℕ) (f : A → B) (i : ℕ) (xs : List A) (zs : List ℤ) → sum_at end i (map f xs) zs ≡ sum_at (λ x. end (f x)) i xs zs
sum_at-map end f i [] zs = refl
sum_at-map end f i (x ∷ xs) [] = refl
sum_at-map end f i (x ∷ xs) (z ∷ zs) = omega (arith, ints, sum_at-map end f i xs zs)

-- none of the numbered elements has its end there
pub sum_at-numbered_none : {X Y : Type 0} (end : Y → ℕ) (f : ℕ → X → Y) (i k : ℕ) (xs : List X) (zs : List ℤ) → ((j : ℕ) (x : X) → k ≤ j → j < k + length xs → end (f j x) ≡ i → ⊥) →
    sum_at end i (numbered f k xs) zs ≡ pos 0
sum_at-numbered_none end f i k [] zs none = refl
sum_at-numbered_none end f i k (x ∷ xs) [] none = refl
sum_at-numbered_none end f i k (x ∷ xs) (z ∷ zs) none =
    omega (
      arith,
      ints,
      here_other (end (f k x)) i z (λ e. none k x (omega arith) (omega arith) e),
      sum_at-numbered_none end f i (k + 1) xs zs (λ j y from below e. none j y (omega arith) (omega arith) e),
    )

-- each has its end at its number
pub sum_at-numbered : {X Y : Type 0} (end : Y → ℕ) (f : ℕ → X → Y) (k p : ℕ) (xs : List X) (zs : List ℤ) → ((j : ℕ) (x : X) → end (f j x) ≡ j) → length xs ≡ length zs → p < length xs →
    sum_at end (k + p) (numbered f k xs) zs ≡ int_at zs p
sum_at-numbered end f k p [] zs own e h = absurd (omega arith)
sum_at-numbered end f k p (x ∷ xs) [] own e h = absurd (omega arith)
sum_at-numbered end f k zero (x ∷ xs) (z ∷ zs) own e h =
    omega (
      arith,
      ints,
      here_same (end (f k x)) (k + zero) z (omega (arith, own k x)),
      sum_at-numbered_none end f (k + zero) (k + 1) xs zs (λ j y from below q. omega (arith, own j y, from, q)),
    )
sum_at-numbered end f k (suc p) (x ∷ xs) (z ∷ zs) own e h =
    let next : (k + 1) + p ≡ k + suc p = omega arith in
    omega (
      arith,
      ints,
      here_other (end (f k x)) (k + suc p) z (λ q. omega (arith, own k x, q)),
      ap (λ i. sum_at end i (numbered f (k + 1) xs) zs) next,
      sum_at-numbered end f (k + 1) p xs zs own (omega arith) (omega arith),
    )

pub sum_below-first : (n : ℕ) (f : ℕ → ℤ) → sum_below (suc n) f ≡ f 0 +ℤ sum_below n (λ i. f (suc i))
sum_below-first zero f = omega (arith, ints)
sum_below-first (suc n) f = omega (arith, ints, sum_below-first n f)

pub total_flow-cons : (z : ℤ) (zs : List ℤ) → total_flow (z ∷ zs) ≡ z +ℤ total_flow zs
total_flow-cons z zs = sum_below-first (length zs) (int_at (z ∷ zs))

-- the numbers at both ends are at most all together, where no element has both its ends at one place
pub both_ends : {A : Type 0} (to from : A → ℕ) (i : ℕ) (xs : List A) (zs : List ℤ) → All (λ x. from x ≢ to x) xs → All (λ z. pos 0 ≤ℤ z) zs →
    (sum_at to i xs zs +ℤ sum_at from i xs zs) ≤ℤ total_flow zs
both_ends to from i [] [] apart sign = omega (arith, ints)
both_ends to from i [] (z ∷ zs) apart sign =
    omega (arith, ints, total_flow-cons z zs, All-head (λ a. pos 0 ≤ℤ a) z zs sign, both_ends to from i [] zs apart (All-tail (λ a. pos 0 ≤ℤ a) z zs sign))
both_ends to from i (x ∷ xs) [] apart sign = omega (arith, ints)
both_ends to from i (x ∷ xs) (z ∷ zs) apart sign =
    let rest = both_ends to from i xs zs (All-tail (λ a. from a ≢ to a) x xs apart) (All-tail (λ a. pos 0 ≤ℤ a) z zs sign) in
    let more = All-head (λ a. pos 0 ≤ℤ a) z zs sign in
    let one = All-head (λ a. from a ≢ to a) x xs apart in
    let total = total_flow-cons z zs in
    ⊎_elim
    (λ (in' : to x ≡ i). omega (arith, ints, rest, more, total, here_same (to x) i z in', here_other (from x) i z (λ e. one (e ∙ sym in'))))
    (λ (out : to x ≡ i → ⊥). ⊎_elim
    (λ (at : from x ≡ i). omega (arith, ints, rest, more, total, here_other (to x) i z out, here_same (from x) i z at))
    (λ (off : from x ≡ i → ⊥). omega (arith, ints, rest, more, total, here_other (to x) i z out, here_other (from x) i z off))
    (cases_eq (from x) i))
    (cases_eq (to x) i)
