-- The number of checkpoints that a walk has passed at a point, and which ones it passes from there on.
use Rattle.std.proofs.Common.{◌≡◌, ◌≢◌, ◌⊎◌, ℕ, suc, zero, ◌+◌, ◌-◌, ◌<◌, ◌≤◌, Option, Some, List, [], ◌∷◌, ◌++◌, length, drop, get_or, refl, sym, ap, subst, ◌∙◌, inl, inr, arith}
use Rattle.std.specs.Prelude.{slice_get}
use Rattle.std.proofs.lemmas.Bool.{cases_lt}
use Rattle.std.proofs.lemmas.List.{drop_more}
use Rattle.std.proofs.lemmas.Option.{slice_get_within, slice_get-get_or}
use Rattle.plane_geom.specs.declared.point.Point.{Point}
use Rattle.plane_geom.specs.declared.point.Dir.{Dir}
use Rattle.plane_geom.proofs.Headings.{same_point}
use Rattle.walk_model.specs.Walk.{after}
use Rattle.walk_laws.proofs.Steps.Clear.{ComesBy}
use Rattle.walk_laws.proofs.Replacing.InnerRuns.{same_or_not}
use Rattle.walk_laws.proofs.Replacing.Legs.{comes-append}
use Rattle.move_model.specs.Places.{ComesTo}

-- the number of checkpoints that a walk has passed at a point is unique
pub one_stage : (via : List Point) (k i j : ℕ) (p : Point) → ComesTo via k p i → ComesTo via k p j → i ≡ j
one_stage via k i j p h g = elim (cases_lt i j) as (λ _. i ≡ j) [
  | inl less ↦ absurd (h.no_more (g.passed i h.from less))
  | inr upto ↦ elim (cases_lt j i) as (λ _. i ≡ j) [
    | inl more ↦ absurd (g.no_more (h.passed j g.from more))
    | inr same ↦ (let e : i ≡ j = omega (arith, upto, same) in e)
  ]
]

same_place_or_not : (p q : Point) → (p ≡ q) ⊎ (p ≢ q)
same_place_or_not p q = by_coordinates (same_or_not p.x q.x) (same_or_not p.y q.y)
  where
    by_coordinates : (p.x ≡ q.x) ⊎ (p.x ≡ q.x → ⊥) → (p.y ≡ q.y) ⊎ (p.y ≡ q.y → ⊥) → (p ≡ q) ⊎ (p ≢ q)
    by_coordinates (inl x) (inl y) = inl (same_point p q x y)
    by_coordinates (inl x) (inr y) = inr (λ e. y (ap (λ (r : Point). r.y) e))
    by_coordinates (inr x) y = inr (λ e. x (ap (λ (r : Point). r.x) e))

same_Some : (p q : Point) → ◌≡◌ {A = Option Point} (Some p) (Some q) → p ≡ q
same_Some p q e = cc

-- the next checkpoint stands at the point, or not
stands_or_not : (via : List Point) (k : ℕ) (p : Point) → (slice_get via k ≡ Some p) ⊎ (slice_get via k ≢ Some p)
stands_or_not via k p = elim (cases_lt k (length via)) as (λ _. (slice_get via k ≡ Some p) ⊎ (slice_get via k ≢ Some p)) [
  | inl within ↦ (
      let is : slice_get via k ≡ Some (get_or via k p) = slice_get-get_or via k p within in
      elim (same_place_or_not (get_or via k p) p) as (λ _. (slice_get via k ≡ Some p) ⊎ (slice_get via k ≢ Some p)) [
        | inl same ↦ inl (is ∙ ap Some same)
        | inr other ↦ inr (λ e. other (same_Some (get_or via k p) p (sym is ∙ e)))
      ])
  | inr past ↦ inr (λ e. absurd (omega (arith, past, slice_get_within via k p e)))
]

-- and there is such a number: where the next checkpoint stands there, it is that of one more
one_further : (via : List Point) (k : ℕ) (p : Point) → slice_get via k ≡ Some p → (j : ℕ) × ComesTo via (k + 1) p j → (j : ℕ) × ComesTo via k p j
one_further via k p here rest = (
  rest.0,
  record {
    from = omega (arith, rest.1.from);
    within = rest.1.within;
    passed = λ i low high. elim (cases_lt k i) as (λ _. slice_get via i ≡ Some p) [
      | inl more ↦ rest.1.passed i (omega (arith, more)) high
      | inr same ↦ (let f : k ≡ i = omega (arith, same, low) in ap (slice_get via) (sym f) ∙ here)
    ];
    no_more = rest.1.no_more;
  },
)

stage_here : (via : List Point) (k : ℕ) (p : Point) → k ≤ length via → slice_get via k ≢ Some p → (j : ℕ) × ComesTo via k p j
stage_here via k p within none = (k, record { from = omega arith; within = within; passed = λ i low high. absurd (omega (arith, low, high)); no_more = none })

stage_from : (n : ℕ) (via : List Point) (k : ℕ) (p : Point) → n + k ≡ length via → (j : ℕ) × ComesTo via k p j
stage_from zero via k p e = stage_here via k p (omega (arith, e)) (λ here. absurd (omega (arith, e, slice_get_within via k p here)))
stage_from (suc n) via k p e =
    let rest = stage_from n via (k + 1) p (omega (arith, e)) in
    elim (stands_or_not via k p) as (λ _. (j : ℕ) × ComesTo via k p j) [
      | inl here ↦ one_further via k p here rest
      | inr none ↦ stage_here via k p (omega (arith, e)) none
    ]

pub some_stage : (via : List Point) (k : ℕ) (p : Point) → k ≤ length via → (j : ℕ) × ComesTo via k p j
some_stage via k p h = stage_from (length via - k) via k p (omega (arith, h))

-- the checkpoints that are left, where the next one stands at the point
left_here : (via : List Point) (k : ℕ) (p : Point) → slice_get via k ≡ Some p → drop k via ≡ p ∷ drop (k + 1) via
left_here via k p e =
    let within = slice_get_within via k p e in
    let same : get_or via k p ≡ p = same_Some (get_or via k p) p (sym (slice_get-get_or via k p within) ∙ e) in
    drop_more via k p within ∙ ap (λ (q : Point). q ∷ drop (k + 1) via) same

module _ (via : List Point) (q : Point) (ds : List Dir) where
  take_one : (cs : List Point) → ComesBy q ds (q ∷ cs) → ComesBy q ds cs
  take_one cs (xs, ys, cut, there, rest) =
      subst (λ zs. ComesBy q zs cs) (sym cut) (comes-append q xs ys [] cs tt (subst (λ x. ComesBy x ys cs) (sym there) rest))

  came : (n k j : ℕ) → n + k ≡ j → ((i : ℕ) → k ≤ i → i < j → slice_get via i ≡ Some q) → ComesBy q ds (drop j via) → ComesBy q ds (drop k via)
  came zero k j e passed h = let same : j ≡ k = omega (arith, e) in subst (λ i. ComesBy q ds (drop i via)) same h
  came (suc n) k j e passed h =
      let rest : ComesBy q ds (drop (k + 1) via) = came n (k + 1) j (omega (arith, e)) (λ i low high. passed i (omega (arith, low)) high) h in
      subst (ComesBy q ds) (sym (left_here via k q (passed k (omega arith) (omega (arith, e))))) ([], ds, refl, refl, rest)

  goes : (n k j : ℕ) → n + k ≡ j → ((i : ℕ) → k ≤ i → i < j → slice_get via i ≡ Some q) → ComesBy q ds (drop k via) → ComesBy q ds (drop j via)
  goes zero k j e passed h = let same : k ≡ j = omega (arith, e) in subst (λ i. ComesBy q ds (drop i via)) same h
  goes (suc n) k j e passed h =
      goes n (k + 1) j (omega (arith, e)) (λ i low high. passed i (omega (arith, low)) high)
      (take_one (drop (k + 1) via) (subst (ComesBy q ds) (left_here via k q (passed k (omega arith) (omega (arith, e)))) h))

  -- what passes the checkpoints that are left from the point on passes all, and the other way around
  pub comes_with : (k j : ℕ) → ComesTo via k q j → ComesBy q ds (drop j via) → ComesBy q ds (drop k via)
  comes_with k j c = came (j - k) k j (omega (arith, c.from)) c.passed

  pub comes_without : (k j : ℕ) → ComesTo via k q j → ComesBy q ds (drop k via) → ComesBy q ds (drop j via)
  comes_without k j c = goes (j - k) k j (omega (arith, c.from)) c.passed

-- the first of the checkpoints that are left
pub next_left : (via : List Point) (k : ℕ) (p : Point) → k < length via → (c : Point) × (slice_get via k ≡ Some c) × (drop k via ≡ c ∷ drop (k + 1) via)
next_left via k p h = let is = slice_get-get_or via k p h in (get_or via k p, is, left_here via k (get_or via k p) is)

-- where no steps are left, no checkpoint is
pub none_left : (via : List Point) (k : ℕ) (p : Point) → k ≤ length via → slice_get via k ≢ Some p → ComesBy p [] (drop k via) → k ≡ length via
none_left via k p h other comes = elim (cases_lt k (length via)) as (λ _. k ≡ length via) [
  | inl less ↦ (
      let next = next_left via k p less in
      let here = subst (ComesBy p []) next.2 comes in
      absurd (other (next.1 ∙ ap Some (sym (nowhere next.0 here.0 here.1 here.2 here.3)))))
  | inr upto ↦ (let e : k ≡ length via = omega (arith, h, upto) in e)
]
  where
    nowhere : (c : Point) (xs ys : List Dir) → [] ≡ xs ++ ys → after p xs ≡ c → p ≡ c
    nowhere c [] ys cut there = there
    nowhere c (x ∷ xs) ys cut there = absurd (let e : [] ≡ x ∷ (xs ++ ys) = cut in cc)
