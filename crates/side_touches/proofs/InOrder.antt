-- Sides that rise by coordinate, and the part of them at one coordinate.
use Rattle.std.proofs.Common.{ℕ, ℤ, ◌≡◌, ◌↔◌, ◌+◌, ◌-◌, ◌<◌, ◌≢◌, ◌≤ℤ◌, ◌<ℤ◌, ◌++◌, All, false, inl, inr, List, length, get_or, take, drop, refl, sym, ap, subst, arith}
use Rattle.std.specs.Prelude.{AllPairs, Contains, IsSortedByKey}
use Rattle.std.specs.Ordering.{int_cmp, is_lt, MatchOrdering}
use Rattle.std.specs.declared.cmp.Ordering.{Ordering}
use Rattle.std.specs.declared.cmp.Ordering.TheVariants.{Less, Equal, Greater}
use Rattle.std.proofs.lemmas.Bool.{cases_lt}
use Rattle.std.proofs.lemmas.Cmp.{int_cmp_total, int_ranked}
use Rattle.std.proofs.lemmas.Int.{ints}
use Rattle.std.proofs.lemmas.List.{get_or_default, get_or-drop, get_or-take, length-take-le, length-drop, take-append-drop}
use Rattle.std.proofs.lemmas.List.Elements.{All-contains, Contains-append_cases, Contains-append_left, Contains-append_right}
use Rattle.std.proofs.lemmas.List.Sorted.{sorted_far, ranks_by}
use Rattle.side_touches.specs.declared.side.Side.{Side}

not_less : (r : Ordering) (x y : ℤ) → MatchOrdering r (x <ℤ y) (x ≡ y) (y <ℤ x) → is_lt r ≡ false → y ≤ℤ x
not_less Less x y m e = absurd (cc)
not_less Equal x y m e = omega (arith, ints)
not_less Greater x y m e = omega (arith, ints)

pub rises : (xs : List Side) → IsSortedByKey (λ (s : Side). s.at) int_cmp xs → AllPairs (λ (a b : Side). a.at ≤ℤ b.at) xs
rises xs up = λ i j d l k.
    let a : ℤ = (get_or xs j d).at in
    let b : ℤ = (get_or xs i d).at in
    not_less (int_cmp a b) a b (int_ranked a b (int_cmp a b) refl) (sorted_far _ (ranks_by int_cmp_total (λ (s : Side). s.at)) xs up i j d (omega arith) k)

pub dropped_in_order : (n : ℕ) (xs : List Side) → AllPairs (λ (a b : Side). a.at ≤ℤ b.at) xs → AllPairs (λ (a b : Side). a.at ≤ℤ b.at) (drop n xs)
dropped_in_order n xs up = λ i j d l k.
    let long : length (drop n xs) ≡ length xs - n = length-drop n xs in
    subst (λ (s : Side). s.at ≤ℤ (get_or (drop n xs) j d).at) (sym (get_or-drop n xs i d))
    (subst (λ (s : Side). (get_or xs (n + i) d).at ≤ℤ s.at) (sym (get_or-drop n xs j d)) (up (n + i) (n + j) d (omega (arith, l)) (omega (arith, long, k))))

-- no side before one stands further
pub sooner : (xs : List Side) (i : ℕ) (d : Side) → AllPairs (λ (a b : Side). a.at ≤ℤ b.at) xs → i < length xs → All (λ s. s.at ≤ℤ (get_or xs i d).at) (take (i + 1) xs)
sooner xs i d up l = λ k e lt.
    let long : length (take (i + 1) xs) ≡ i + 1 = length-take-le (i + 1) xs (omega (arith, l)) in
    let is : get_or (take (i + 1) xs) k e ≡ get_or xs k e = get_or-take (i + 1) xs k e (omega (arith, long, lt)) in
    let one : get_or xs i e ≡ get_or xs i d = get_or_default xs i e d l in
    subst (λ (s : Side). s.at ≤ℤ (get_or xs i d).at) (sym is) (subst (λ (s : Side). (get_or xs k e).at ≤ℤ s.at) one
    (elim (cases_lt k i) as (λ _. (get_or xs k e).at ≤ℤ (get_or xs i e).at) [
      | inl less ↦ up k i e less l
      | inr not ↦ (
          let same : k ≡ i = omega (arith, not, long, lt) in
          let equal : (get_or xs k e).at ≡ (get_or xs i e).at = ap (λ (n : ℕ). (get_or xs n e).at) same in
          omega (arith, ints, equal))
    ]))

-- no side from one on stands nearer
pub later : (xs : List Side) (i : ℕ) (d : Side) → AllPairs (λ (a b : Side). a.at ≤ℤ b.at) xs → i < length xs → All (λ s. (get_or xs i d).at ≤ℤ s.at) (drop i xs)
later xs i d up l = λ k e lt.
    let long : length (drop i xs) ≡ length xs - i = length-drop i xs in
    let one : get_or xs i e ≡ get_or xs i d = get_or_default xs i e d l in
    subst (λ (s : Side). (get_or xs i d).at ≤ℤ s.at) (sym (get_or-drop i xs k e)) (subst (λ (s : Side). s.at ≤ℤ (get_or xs (i + k) e).at) one
    (elim (cases_lt 0 k) as (λ _. (get_or xs i e).at ≤ℤ (get_or xs (i + k) e).at) [
      | inl some ↦ up i (i + k) e (omega (arith, some)) (omega (arith, long, lt))
      | inr none ↦ (
          let same : i ≡ i + k = omega (arith, none) in
          let equal : (get_or xs i e).at ≡ (get_or xs (i + k) e).at = ap (λ (n : ℕ). (get_or xs n e).at) same in
          omega (arith, ints, equal))
    ]))

-- what stands after the sides before the coordinate, and before those beyond it, are the sides there
pub at_one : (at : ℤ) (xs : List Side) (i j : ℕ) → All (λ (s : Side). s.at <ℤ at) (take i xs) → All (λ (s : Side). s.at ≡ at) (take j (drop i xs)) → All (λ (s : Side). s.at ≢ at) (drop j (drop i xs)) →
    (x : Side) → Contains (take j (drop i xs)) x ↔ (Contains xs x × (x.at ≡ at))
at_one at xs i j before here beyond x =
    let rest = drop i xs in
    let whole : take i xs ++ rest ≡ xs = take-append-drop i xs in
    let parts : take j rest ++ drop j rest ≡ rest = take-append-drop j rest in (
      λ c. (
        subst (λ ys. Contains ys x) whole (Contains-append_right (take i xs) rest x (subst (λ ys. Contains ys x) parts (Contains-append_left (take j rest) (drop j rest) x c))),
        All-contains (λ (s : Side). s.at ≡ at) (take j rest) x here c,
      ),
      λ m. elim (Contains-append_cases (take i xs) rest x (subst (λ ys. Contains ys x) (sym whole) m.0)) as (λ _. Contains (take j rest) x) [
        | inl c ↦ (
            let less : x.at <ℤ at = All-contains (λ (s : Side). s.at <ℤ at) (take i xs) x before c in
            let same : x.at ≡ at = m.1 in
            absurd (omega (arith, ints, less, same)))
        | inr c ↦ elim (Contains-append_cases (take j rest) (drop j rest) x (subst (λ ys. Contains ys x) (sym parts) c)) as (λ _. Contains (take j rest) x) [
          | inl there ↦ there
          | inr there ↦ absurd (All-contains (λ (s : Side). s.at ≢ at) (drop j rest) x beyond there m.1)
        ]
      ],
    )
