-- Parts of lists at a place where a test changes, and stops that rise by coordinate.
use Rattle.std.proofs.Common.{◌≡◌, ◌↔◌, ℕ, ℤ, ◌+◌, ◌-◌, ◌<◌, ◌≤◌, ◌≤ℤ◌, ◌<ℤ◌, Bool, true, false, not, inl, inr, List, length, get_or, take, drop, min, sym, subst, ap, ◌∙◌, arith}
use Rattle.std.specs.Prelude.{AllPairs, Contains, int_lt}
use Rattle.std.specs.List.Sorted.{IsPartitionedBy, IsPartitionPoint}
use Rattle.std.proofs.lemmas.Bool.{cases_lt}
use Rattle.std.proofs.lemmas.Int.{ints}
use Rattle.std.proofs.lemmas.List.{get_or-drop, get_or-take, length-take, length-take-le, length-drop}
use Rattle.line_lists.specs.declared.stop.Stop.{Stop}

module _ {X : Type 0} (p : X → Bool) (xs : List X) (i : ℕ) (within : i ≤ length xs) (parts : IsPartitionPoint (λ y. p y ≡ true) (λ y. p y ≡ false) xs i) where
  -- what stands before the place passes the test
  pub taken : (x : X) → Contains (take i xs) x ↔ (Contains xs x × (p x ≡ true))
  taken x =
      let long : length (take i xs) ≡ i = length-take-le i xs within in (
        λ c.
            let below : c.0 < i = omega (arith, c.1, long) in
            let here : get_or xs c.0 x ≡ x = sym (get_or-take i xs c.0 x below) ∙ c.2 in
            ((c.0, omega (arith, below, within), here), subst (λ y. p y ≡ true) here (parts.0 c.0 x (omega arith) below)),
        λ m.
            let n = m.0.0 in
            let here : get_or xs n x ≡ x = m.0.2 in
            let inside : n < length xs = m.0.1 in
            let below : n < i = elim (cases_lt n i) as (λ _. n < i) [
              | inl l ↦ l
              | inr l ↦ absurd (let no : p x ≡ false = subst (λ y. p y ≡ false) here (parts.1 n x l inside) in let both : true ≡ false = sym m.1 ∙ no in cc)
            ] in
            (n, omega (arith, below, long), get_or-take i xs n x below ∙ here),
      )

  -- what stands behind it does not
  pub left : (x : X) → Contains (drop i xs) x ↔ (Contains xs x × (p x ≡ false))
  left x =
      let long : length (drop i xs) ≡ length xs - i = length-drop i xs in (
        λ c.
            let n = i + c.0 in
            let inside : n < length xs = omega (arith, c.1, long) in
            let here : get_or xs n x ≡ x = sym (get_or-drop i xs c.0 x) ∙ c.2 in
            ((n, inside, here), subst (λ y. p y ≡ false) here (parts.1 n x (omega arith) inside)),
        λ m.
            let n = m.0.0 in
            let here : get_or xs n x ≡ x = m.0.2 in
            let inside : n < length xs = m.0.1 in
            let behind : i ≤ n = elim (cases_lt n i) as (λ _. i ≤ n) [
              | inl l ↦ absurd (let yes : p x ≡ true = subst (λ y. p y ≡ true) here (parts.0 n x (omega arith) l) in let both : true ≡ false = sym yes ∙ m.1 in cc)
              | inr l ↦ l
            ] in
            let back : i + (n - i) ≡ n = omega (arith, behind) in
            (n - i, omega (arith, inside, behind, long), get_or-drop i xs (n - i) x ∙ ap (λ k. get_or xs k x) back ∙ here),
      )

abbrev pub Rise : List Stop → Type 0
Rise stops = AllPairs (λ s t. s.along <ℤ t.along) stops

pub taken_rise : (n : ℕ) (xs : List Stop) → Rise xs → Rise (take n xs)
taken_rise n xs up = λ i j d l k.
    let long : length (take n xs) ≡ min n (length xs) = length-take n xs in
    let a : get_or (take n xs) i d ≡ get_or xs i d = get_or-take n xs i d (omega arith) in
    let b : get_or (take n xs) j d ≡ get_or xs j d = get_or-take n xs j d (omega arith) in
    subst (λ (s : Stop). s.along <ℤ (get_or (take n xs) j d).along) (sym a) (subst (λ (s : Stop). (get_or xs i d).along <ℤ s.along) (sym b) (up i j d l (omega arith)))

-- a test that each lesser coordinate passes too parts stops
pub parted : (test : ℤ → Bool) → ((y z : ℤ) → y <ℤ z → test z ≡ true → test y ≡ true) → (xs : List Stop) → Rise xs → IsPartitionedBy (λ (s : Stop). test s.along) xs
parted test falls xs up = λ i j d h l e. elim (cases_lt i j) [
  | inl k ↦ falls (get_or xs i d).along (get_or xs j d).along (up i j d k l) e
  | inr k ↦ (let same : i ≡ j = omega arith in subst (λ (n : ℕ). test (get_or xs n d).along ≡ true) (sym same) e)
]

pub upto_falls : (at y z : ℤ) → y <ℤ z → not (int_lt at z) ≡ true → not (int_lt at y) ≡ true
upto_falls at y z h e = grind (arith, ints)

pub before_falls : (at y z : ℤ) → y <ℤ z → int_lt z at ≡ true → int_lt y at ≡ true
before_falls at y z h e = grind (arith, ints)

pub upto : (at z : ℤ) → not (int_lt at z) ≡ true → z ≤ℤ at
upto at z e = grind (arith, ints)

pub is_upto : (at z : ℤ) → z ≤ℤ at → not (int_lt at z) ≡ true
is_upto at z e = grind (arith, ints)

pub from : (at z : ℤ) → int_lt z at ≡ false → at ≤ℤ z
from at z e = grind (arith, ints)

pub is_from : (at z : ℤ) → at ≤ℤ z → int_lt z at ≡ false
is_from at z e = grind (arith, ints)
