-- Each list can be put in order.
use Rattle.std.proofs.Common.{ℕ, zero, suc, ◌<◌, ◌≤◌, List, [], ◌∷◌, length, get_or, ⊎_elim, arith}
use Rattle.std.specs.List.{insert}
use Rattle.std.specs.List.Sorted.{IsPermutation, IsNonDecreasingBy}
use Rattle.std.proofs.lemmas.Bool.{cases_lt}
use Rattle.std.proofs.lemmas.List.Sorted.{IsPermutation-refl, IsPermutation-cons, IsPermutation-insert, IsPermutation-trans, IsNonDecreasingBy-short, IsNonDecreasingBy-insert}

module _ {X : Type 0} (n : X → ℕ) where
  -- the first index whose element is not below the number
  record IsFirstNotBelow (xs : List X) (t index : ℕ) : Type 0 where
    within : index ≤ length xs
    below : (k : ℕ) (d : X) → k < index → n (get_or xs k d) < t
    not_below : (d : X) → index < length xs → t ≤ n (get_or xs index d)

  first_not_below : (xs : List X) (t : ℕ) → (index : ℕ) × IsFirstNotBelow xs t index
  first_not_below [] t = (0, record { within = omega arith; below = λ k d l. absurd (omega arith); not_below = λ d l. absurd (omega arith) })
  first_not_below (x ∷ xs) t = ⊎_elim
      (λ low. let rest = first_not_below xs t in (
        suc rest.0,
        record {
          within = omega (arith, rest.1.within);
          below = λ k d. elim k as (λ k. k < suc rest.0 → n (get_or (x ∷ xs) k d) < t) [ zero ↦ λ l. low | suc k ↦ λ l. rest.1.below k d (omega arith) ];
          not_below = λ d l. rest.1.not_below d (omega arith);
        },
      ))
      (λ high. (0, record { within = omega arith; below = λ k d l. absurd (omega arith); not_below = λ d l. high }))
      (cases_lt (n x) t)

  -- the elements in an order in which their numbers do not fall
  pub record IsOrderOf (xs ys : List X) : Type 0 where
    pub same : IsPermutation xs ys
    pub sorted : IsNonDecreasingBy n ys

  pub ordered : (xs : List X) → (ys : List X) × IsOrderOf xs ys
  ordered [] = ([], record { same = IsPermutation-refl []; sorted = IsNonDecreasingBy-short n [] (omega arith) })
  ordered (x ∷ xs) =
      let rest = ordered xs in
      let ys = rest.0 in
      let place = first_not_below ys (n x) in (
        insert ys place.0 x,
        record {
          same = IsPermutation-trans _ _ _ (IsPermutation-cons x xs ys rest.1.same) (IsPermutation-insert ys place.0 x);
          sorted = IsNonDecreasingBy-insert n ys place.0 x rest.1.sorted place.1.within (λ k d l. omega (arith, place.1.below k d l))
              (λ k d from l. omega (arith, place.1.not_below d (omega arith), rest.1.sorted place.0 k d from l));
        },
      )
