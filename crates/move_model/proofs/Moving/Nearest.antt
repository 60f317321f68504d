-- Where a crossing lies further on along a line, one is the nearest.
use Rattle.std.proofs.Common.{◌≡◌, ◌⊎◌, ℕ, Bool, true, false, cond, Option, Some, None, List, [], ◌∷◌, sym, ap, subst, ◌∙◌, inl, inr, refl}
use Rattle.std.specs.FinMap.{entries, find, get, get-entries}
use Rattle.std.specs.Cmp.{unsigned_tied}
use Rattle.std.specs.Ordering.{eq_by_cmp, nat_cmp}
use Rattle.std.proofs.lemmas.Bool.Decides.{eqb_tells}
use Rattle.plane_geom.specs.declared.point.Dir.{Dir}
use Rattle.line_arena.specs.Arena.{Arena, IsArena, IsNearest, LiesFurther, Pair, line_along}
use Rattle.line_arena.proofs.Arenas.ArenaLaws.{further_on, never_further, one_further, same_pair}
use Rattle.move_model.proofs.Moving.Crossings.{in_order}

-- the id is that of an entry
record IsAmong (es : List (ℕ × Pair)) (c : ℕ) : Type 0 where
  pair : Pair
  found : find nat_cmp c es ≡ Some pair

among_more : (e : ℕ × Pair) (es : List (ℕ × Pair)) (c : ℕ) → IsAmong (e ∷ es) c → (c ≡ e.0) ⊎ IsAmong es c
among_more e es c h = by_test (eq_by_cmp nat_cmp c e.0) refl
  where
    by_test : (b : Bool) → b ≡ eq_by_cmp nat_cmp c e.0 → (c ≡ e.0) ⊎ IsAmong es c
    by_test true f = elim (eqb_tells c e.0) as (λ _. (c ≡ e.0) ⊎ IsAmong es c) [
      | inl same ↦ inl same.1
      | inr other ↦ absurd (let both : true ≡ false = f ∙ unsigned_tied c e.0 ∙ other.0 in cc)
    ]
    by_test false f = inr (record { pair = h.pair; found = ap (λ b. cond b (Some e.1) (find nat_cmp c es)) f ∙ h.found })

module _ (a : Arena) (arena : IsArena a) (d : Dir) (from : ℕ) (here : Pair) (is_here : get a.crossings from ≡ Some here) where
  further_or_not : (c : ℕ) → LiesFurther a d from c ⊎ (LiesFurther a d from c → ⊥)
  further_or_not c = by_pair (get a.crossings c) refl
    where
      by_pair : (o : Option Pair) → o ≡ get a.crossings c → LiesFurther a d from c ⊎ (LiesFurther a d from c → ⊥)
      by_pair None e = inr (λ f. let both : None ≡ Some f.there = e ∙ f.is_there in cc)
      by_pair (Some there) e = elim (eqb_tells (line_along d there) (line_along d here)) as (λ _. LiesFurther a d from c ⊎ (LiesFurther a d from c → ⊥)) [
        | inl line ↦ elim (eqb_tells from c) as (λ _. LiesFurther a d from c ⊎ (LiesFurther a d from c → ⊥)) [
          | inl same ↦ inr (λ f. never_further a d from arena (subst (LiesFurther a d from) (sym same.1) f))
          | inr other ↦ elim (one_further a d from c here there arena is_here (sym e) line.1 other.1) as (λ _. LiesFurther a d from c ⊎ (LiesFurther a d from c → ⊥)) [
            | inl further ↦ inl further
            | inr before ↦ inr (λ f. never_further a d from arena (further_on a d from c from arena f before))
          ]
        ]
        | inr apart ↦ inr (λ f. apart.1 (ap (line_along d) (same_pair there f.there (e ∙ f.is_there)) ∙ f.line ∙ ap (line_along d) (same_pair f.here here (sym f.is_here ∙ is_here))))
      ]

  -- of the entries, this is the nearest further on
  record IsLeast (es : List (ℕ × Pair)) (n : ℕ) : Type 0 where
    lies : LiesFurther a d from n
    others : (c : ℕ) → IsAmong es c → LiesFurther a d from c → (c ≡ n) ⊎ LiesFurther a d n c

  least_among : (es : List (ℕ × Pair)) → ((c : ℕ) → IsAmong es c → LiesFurther a d from c → ⊥) ⊎ ((n : ℕ) × IsLeast es n)
  least_among [] = inl (λ c h f. let both : None ≡ Some h.pair = h.found in cc)
  least_among (e ∷ es) = with_one (further_or_not e.0) (least_among es)
    where
      old_least : (n : ℕ) → IsLeast es n → (e.0 ≡ n) ⊎ LiesFurther a d n e.0 → IsLeast (e ∷ es) n
      old_least n l one = record {
        lies = l.lies;
        others = λ c h f. elim (among_more e es c h) as (λ _. (c ≡ n) ⊎ LiesFurther a d n c) [
          | inl same ↦ subst (λ k. (k ≡ n) ⊎ LiesFurther a d n k) (sym same) one
          | inr more ↦ l.others c more f
        ];
      }

      new_least : (n : ℕ) → IsLeast es n → LiesFurther a d from e.0 → LiesFurther a d e.0 n → IsLeast (e ∷ es) e.0
      new_least n l is before = record {
        lies = is;
        others = λ c h f. elim (among_more e es c h) as (λ _. (c ≡ e.0) ⊎ LiesFurther a d e.0 c) [
          | inl same ↦ inl same
          | inr more ↦ elim (l.others c more f) as (λ _. (c ≡ e.0) ⊎ LiesFurther a d e.0 c) [
            | inl least ↦ inr (subst (LiesFurther a d e.0) (sym least) before)
            | inr past ↦ inr (further_on a d e.0 n c arena before past)
          ]
        ];
      }

      with_one : LiesFurther a d from e.0 ⊎ (LiesFurther a d from e.0 → ⊥) → ((c : ℕ) → IsAmong es c → LiesFurther a d from c → ⊥) ⊎ ((n : ℕ) × IsLeast es n) →
          ((c : ℕ) → IsAmong (e ∷ es) c → LiesFurther a d from c → ⊥) ⊎ ((n : ℕ) × IsLeast (e ∷ es) n)
      with_one (inr not) (inl none) = inl (λ c h f. elim (among_more e es c h) as (λ _. ⊥) [ inl same ↦ not (subst (LiesFurther a d from) same f) | inr more ↦ none c more f ])
      with_one (inl is) (inl none) = inr (
        e.0,
        record {
          lies = is;
          others = λ c h f. elim (among_more e es c h) as (λ _. (c ≡ e.0) ⊎ LiesFurther a d e.0 c) [ inl same ↦ inl same | inr more ↦ absurd (none c more f) ];
        },
      )
      with_one (inr not) (inr (n, l)) = inr (
        n,
        record {
          lies = l.lies;
          others = λ c h f. elim (among_more e es c h) as (λ _. (c ≡ n) ⊎ LiesFurther a d n c) [ inl same ↦ absurd (not (subst (LiesFurther a d from) same f)) | inr more ↦ l.others c more f ];
        },
      )
      with_one (inl is) (inr (n, l)) = elim (in_order a arena d from e.0 n is l.lies) as (λ _. ((c : ℕ) → IsAmong (e ∷ es) c → LiesFurther a d from c → ⊥) ⊎ ((n : ℕ) × IsLeast (e ∷ es) n)) [
        | inl same ↦ inr (n, old_least n l (inl same))
        | inr two ↦ elim two as (λ _. ((c : ℕ) → IsAmong (e ∷ es) c → LiesFurther a d from c → ⊥) ⊎ ((n : ℕ) × IsLeast (e ∷ es) n)) [
          | inl before ↦ inr (e.0, new_least n l is before)
          | inr behind ↦ inr (n, old_least n l (inr behind))
        ]
      ]

-- where a crossing lies further on, one is the nearest
pub some_nearest : (a : Arena) → IsArena a → (d : Dir) (from c : ℕ) → LiesFurther a d from c → (n : ℕ) × IsNearest a d from n
some_nearest a arena d from c f =
    let among : (k : ℕ) → LiesFurther a d from k → IsAmong (entries a.crossings) k = λ k g. record { pair = g.there; found = sym (get-entries a.crossings k) ∙ g.is_there } in
    elim (least_among a arena d from f.here f.is_here (entries a.crossings)) as (λ _. (n : ℕ) × IsNearest a d from n) [
      | inl none ↦ absurd (none c (among c f) f)
      | inr (n, l) ↦ (n, record { lies = l.lies; others = λ k g. l.others k (among k g) g })
    ]
