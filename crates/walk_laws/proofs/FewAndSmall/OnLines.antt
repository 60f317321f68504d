-- Steps on lines of some names, equal between any two points of one line, have no more runs than there are names.
use Rattle.std.proofs.Common.{◌≡◌, ◌⊎◌, ℕ, suc, zero, ◌<◌, ◌≤◌, List, [], ◌∷◌, ◌++◌, length, Contains, refl, sym, ap, subst, ◌∙◌, inl, inr, arith, append_assoc}
use Rattle.std.proofs.lemmas.Bool.{cases_lt}
use Rattle.plane_geom.specs.declared.point.Point.{Point}
use Rattle.plane_geom.specs.declared.point.Dir.{Dir}
use Rattle.plane_geom.specs.Point.{forward}
use Rattle.walk_model.specs.Walk.{after}
use Rattle.walk_model.specs.Cost.{turn, runs}
use Rattle.walk_model.proofs.CornerByCorner.Bends.{one_direction}
use Rattle.walk_laws.proofs.FewAndSmall.CountedRuns.{counted, begins_run, goes_on_run}

-- a list without one of its elements
record Without {A : Type 0} (names : List A) (a : A) : Type 0 where
  rest : List A
  fewer : length names ≡ suc (length rest)
  others : (b : A) → Contains names b → (b ≡ a) ⊎ Contains rest b
  still : (b : A) → Contains rest b → Contains names b

without : {A : Type 0} (names : List A) (a : A) → Contains names a → Without names a
without [] a h = absurd (let l : h.0 < 0 = h.1 in omega arith)
without {A} (x ∷ names) a (zero, l, is) = record {
  rest = names;
  fewer = refl;
  others = λ b h. by_place b h;
  still = λ b h. (suc h.0, omega (arith, h.1), h.2);
}
  where
    by_place : (b : A) → Contains (x ∷ names) b → (b ≡ a) ⊎ Contains names b
    by_place b (zero, k, e) = inl (sym e ∙ is)
    by_place b (suc j, k, e) = inr (j, omega (arith, k), e)
without {A} (x ∷ names) a (suc i, l, is) = more (without names a (i, omega (arith, l), is))
  where
    more : Without names a → Without (x ∷ names) a
    more w = record {
      rest = x ∷ w.rest;
      fewer = ap suc w.fewer;
      others = λ b h. by_place b h;
      still = λ b h. back b h;
    }
      where
        by_place : (b : A) → Contains (x ∷ names) b → (b ≡ a) ⊎ Contains (x ∷ w.rest) b
        by_place b (zero, k, e) = inr (0, omega arith, e)
        by_place b (suc j, k, e) = elim (w.others b (j, omega (arith, k), e)) as (λ _. (b ≡ a) ⊎ Contains (x ∷ w.rest) b) [
          | inl same ↦ inl same
          | inr there ↦ inr (suc there.0, omega (arith, there.1), there.2)
        ]

        back : (b : A) → Contains (x ∷ w.rest) b → Contains (x ∷ names) b
        back b (zero, k, e) = (0, omega arith, e)
        back b (suc j, k, e) = let there = w.still b (j, omega (arith, k), e) in (suc there.0, omega (arith, there.1), there.2)

-- each step that counts lies on the line of one of the names, and between two points of one line the steps are equal
pub record AreOnLines {A : Type 0} (share : Dir → ℕ) (On : A → Point → Type 0) (names : List A) (p : Point) (steps : List Dir) : Type 0 where
  pub on : (xs : List Dir) (d : Dir) (ys : List Dir) → steps ≡ xs ++ d ∷ ys → 0 < share d → (a : A) × Contains names a × On a (after p xs) × On a (after p (xs ++ d ∷ []))
  pub once : (xs zs ys : List Dir) → steps ≡ xs ++ (zs ++ ys) → (a : A) → Contains names a → On a (after p xs) → On a (after p (xs ++ zs)) → runs zs ≤ 1

-- a step, one in another direction, and any steps after them
two_runs : (d e : Dir) (es xs : List Dir) (f : Dir) (ys : List Dir) → 0 < turn d e → e ∷ es ≡ xs ++ f ∷ ys → 2 ≤ runs (d ∷ (xs ++ f ∷ []))
two_runs d e es [] f ys h cut = let same : e ≡ f = cc in subst (λ (x : Dir). 2 ≤ runs (d ∷ x ∷ [])) same (omega (arith, begins_run d e 1 h))
two_runs d e es (x ∷ xs) f ys h cut = let same : e ≡ x = cc in subst (λ (y : Dir). 2 ≤ runs (d ∷ y ∷ (xs ++ f ∷ []))) same (omega (arith, begins_run d e 1 h))

module _ {A : Type 0} (share : Dir → ℕ) (one : (d : Dir) → share d ≤ 1) (On : A → Point → Type 0) where
  behind_step : (names : List A) (p : Point) (d : Dir) (ds : List Dir) → AreOnLines share On names p (d ∷ ds) → AreOnLines share On names (forward d 1 p) ds
  behind_step names p d ds h = record {
    on = λ xs e ys cut some. h.on (d ∷ xs) e ys (ap (λ zs. d ∷ zs) cut) some;
    once = λ xs zs ys cut a has begin end. h.once (d ∷ xs) zs ys (ap (λ ws. d ∷ ws) cut) a has begin end;
  }

  -- where the first step is a run, no later step lies on its line
  without_first : (names : List A) (p : Point) (d e : Dir) (es : List Dir) (a : A) → 0 < turn d e → AreOnLines share On names p (d ∷ e ∷ es) → Contains names a → On a p →
      (w : Without names a) → AreOnLines share On w.rest (forward d 1 p) (e ∷ es)
  without_first names p d e es a turns h has begin w = record {
    on = λ xs f ys cut some.
        let o = h.on (d ∷ xs) f ys (ap (λ zs. d ∷ zs) cut) some in
        let other : Contains w.rest o.0 = elim (w.others o.0 o.1) as (λ _. Contains w.rest o.0) [
          | inl same ↦ absurd (
              let end : On a (after p (d ∷ (xs ++ f ∷ []))) = subst (λ b. On b (after p (d ∷ (xs ++ f ∷ [])))) same o.3 in
              let all : d ∷ e ∷ es ≡ (d ∷ (xs ++ f ∷ [])) ++ ys = ap (λ zs. d ∷ zs) (cut ∙ sym (append_assoc xs (f ∷ []) ys)) in
              omega (arith, h.once [] (d ∷ (xs ++ f ∷ [])) ys all a has begin end, two_runs d e es xs f ys turns cut))
          | inr there ↦ there
        ] in
        (o.0, other, o.2, o.3);
    once = λ xs zs ys cut b there begin' end. h.once (d ∷ xs) zs ys (ap (λ ws. d ∷ ws) cut) b (w.still b there) begin' end;
  }

  pub few_on_lines : (steps : List Dir) (names : List A) (p : Point) → AreOnLines share On names p steps → counted share steps ≤ length names
  few_on_lines [] names p h = omega arith
  few_on_lines (d ∷ []) names p h = elim (cases_lt 0 (share d)) as (λ _. counted share (d ∷ []) ≤ length names) [
    | inl some ↦ (let m = h.on [] d [] refl some in let l : m.1.0 < length names = m.1.1 in omega (arith, one d, l))
    | inr none ↦ omega (arith, none)
  ]
  few_on_lines (d ∷ e ∷ es) names p h = by_turn (one_direction d e) (λ left k. few_on_lines (e ∷ es) left (forward d 1 p) k)
    where
      by_turn : (d ≡ e) ⊎ (0 < turn d e) → ((left : List A) → AreOnLines share On left (forward d 1 p) (e ∷ es) → counted share (e ∷ es) ≤ length left) → counted share (d ∷ e ∷ es) ≤ length names
      by_turn (inl same) behind =
          let equal : counted share (d ∷ e ∷ es) ≡ counted share (d ∷ d ∷ es) = ap (λ (f : Dir). counted share (d ∷ f ∷ es)) (sym same) in
          let fewer : counted share (e ∷ es) ≡ counted share (d ∷ es) = ap (λ (f : Dir). counted share (f ∷ es)) (sym same) in
          omega (arith, equal, fewer, goes_on_run d (share d), behind names (behind_step names p d (e ∷ es) h))
      by_turn (inr turns) behind = elim (cases_lt 0 (share d)) as (λ _. counted share (d ∷ e ∷ es) ≤ length names) [
        | inl some ↦ (
            let m = h.on [] d (e ∷ es) refl some in
            let w = without names m.0 m.1 in
            omega (arith, one d, begins_run d e (share e) turns, w.fewer, behind w.rest (without_first names p d e es m.0 turns h m.1 m.2 w)))
        | inr none ↦ omega (arith, none, begins_run d e (share e) turns, behind names (behind_step names p d (e ∷ es) h))
      ]
