-- A line goes with all its crossings.
use Rattle.std.proofs.Common.{◌≡◌, ◌≢◌, inl, inr, ℕ, zero, suc, ◌+◌, ◌-◌, ◌<◌, List, [], ◌∷◌, ◌++◌, Some, refl, sym, ap, subst, ◌∙◌, arith}
use Rattle.std.proofs.lemmas.Bool.{cases_eq}
use Rattle.std.specs.Prelude.{Contains}
use Rattle.std.proofs.lemmas.List.Elements.{Contains-append_left, Contains-append_right, Contains-append_cases}
use Rattle.std.specs.FinMap.{get, len, remove}
use Rattle.plane_geom.specs.declared.floor.Line.{Line}
use Rattle.line_arena.specs.Arena.{Arena, Pair, IsOn, IsArena}
use Rattle.line_arena.specs.Stands.{IsComplete}
use Rattle.graph_repair.specs.Take.{AreTaken}
use Rattle.visibility_graph.proofs.Lines.{one_id, same_some}
use Rattle.visibility_graph.proofs.Crossed.{only_one, the_one}
use Rattle.graph_repair.proofs.Counted.{removed, left, less_one, some_len}

-- some crossings of the line were removed from the arena, and nothing else
pub record IsEmptied (old now : Arena) (id : ℕ) : Type 0 where
  pub lines : now.lines ≡ old.lines
  pub spare_lines : now.spare_lines ≡ old.spare_lines
  pub written : now.written ≡ old.written
  pub fewer : (c : ℕ) (p : Pair) → get now.crossings c ≡ Some p → get old.crossings c ≡ Some p
  pub others : (c : ℕ) (p : Pair) → get old.crossings c ≡ Some p → p.vertical ≢ id → p.horizontal ≢ id → get now.crossings c ≡ Some p
  pub places : len now.crossings + now.spare_crossings ≡ len old.crossings + old.spare_crossings

pub not_emptied : (a : Arena) (id : ℕ) → IsEmptied a a id
not_emptied a id = record { lines = refl; spare_lines = refl; written = refl; fewer = λ c p g. g; others = λ c p g v h. g; places = refl }

same_places : (n r s t : ℕ) → (n ≡ 0 → ⊥) → r ≡ n - 1 → n + s ≡ t → r + (s + 1) ≡ t
same_places zero r s t f e h = absurd (f refl)
same_places (suc n) r s t f e h = omega arith

-- one more goes
pub emptied_more : (old now : Arena) (id c : ℕ) → IsEmptied old now id → IsOn now id c →
    IsEmptied old (record now { crossings = remove now.crossings c; spare_crossings = now.spare_crossings + 1 }) id
emptied_more old now id c h on = record {
  lines = h.lines;
  spare_lines = h.spare_lines;
  written = h.written;
  fewer = λ d p g. h.fewer d p (removed now.crossings c d p g).1;
  others = λ d p g v w. elim (cases_eq d c) as (λ _. get (remove now.crossings c) d ≡ Some p) [
    | inl e ↦ absurd (
        let here = h.others d p g v w in
        let same : p ≡ on.pair = same_some p on.pair (sym here ∙ ap (get now.crossings) e ∙ on.is) in
        elim on.on as (λ _. ⊥) [ inl a ↦ v (ap (λ (q : Pair). q.vertical) same ∙ a) | inr b ↦ w (ap (λ (q : Pair). q.horizontal) same ∙ b) ])
    | inr ne ↦ left now.crossings c d p ne (h.others d p g v w)
  ];
  places = same_places (len now.crossings) _ now.spare_crossings _ (λ z. some_len now.crossings c on.pair (len now.crossings) on.is refl z) (less_one now.crossings c on.pair on.is) h.places;
}

-- the line goes once it has no crossing left
pub taken : (old now : Arena) (id : ℕ) (line : Line) → IsArena old → IsComplete old → get old.lines id ≡ Some line → IsEmptied old now id →
    ((c : ℕ) → IsOn now id c → ⊥) →
    AreTaken old (record now { lines = remove now.lines id; spare_lines = now.spare_lines + 1 }) (line ∷ [])
taken old now id line arena complete at h none =
    let here : get now.lines id ≡ Some line = ap (λ m. get m id) h.lines ∙ at in
    let before = λ (i : ℕ) (l : Line) (g : get (remove now.lines id) i ≡ Some l). ap (λ m. get m i) (sym h.lines) ∙ (removed now.lines id i l g).1 in
    record {
      stands = λ l. (
        λ s. ((s.0, before s.0 l s.1), λ k. (removed now.lines id s.0 l s.1).0 (one_id old s.0 id l arena (before s.0 l s.1) (at ∙ ap Some (only_one line l k)))),
        λ s. let i = s.0.0 in
            let g : get old.lines i ≡ Some l = s.0.1 in
            (i, left now.lines id i l (λ e. s.1 (subst (Contains (line ∷ [])) (same_some line l (sym at ∙ ap (get old.lines) (sym e) ∙ g)) (the_one line))) (ap (λ m. get m i) h.lines ∙ g)),
      );
      complete = λ v w m.
          let down = before v m.down m.is_down in
          let across = before w m.across m.is_across in
          let c = complete v w (record { down = m.down; across = m.across; is_down = down; is_across = across; down_runs = m.down_runs; across_runs = m.across_runs; point = m.point; on_down = m.on_down; on_across = m.on_across }) in
          (c.0, h.others c.0 _ c.1 (removed now.lines id v m.down m.is_down).0 (removed now.lines id w m.across m.is_across).0);
      written = h.written;
      line_places = same_places (len now.lines) _ now.spare_lines _ (λ z. some_len now.lines id line (len now.lines) here refl z) (less_one now.lines id line here) (ap (λ m. len m + now.spare_lines) h.lines ∙ ap (λ n. len old.lines + n) h.spare_lines);
      crossing_places = h.places;
    }

below_by_one : (n r : ℕ) → (n ≡ 0 → ⊥) → r ≡ n - 1 → r < n
below_by_one zero r f e = absurd (f refl)
below_by_one (suc n) r f e = omega arith

-- with each crossing that goes there are fewer
pub emptied_smaller : (now : Arena) (id c : ℕ) → IsOn now id c → len (remove now.crossings c) < len now.crossings
emptied_smaller now id c on =
    below_by_one (len now.crossings) _ (λ z. some_len now.crossings c on.pair (len now.crossings) on.is refl z) (less_one now.crossings c on.pair on.is)

-- ---- one line after another

pub taken_none : (a : Arena) → IsComplete a → AreTaken a a []
taken_none a complete = record {
  stands = λ l. (λ h. (h, λ none. absurd (omega (arith, none.1))), λ h. h.0);
  complete = complete;
  written = refl;
  line_places = refl;
  crossing_places = refl;
}

pub taken_on : (a b c : Arena) (xs ys : List Line) → AreTaken a b xs → AreTaken b c ys → AreTaken a c (xs ++ ys)
taken_on a b c xs ys f g = record {
  stands = λ l. (
    λ h.
        let mid = (g.stands l).0 h in
        let old = (f.stands l).0 mid.0 in
        (old.0, λ z. elim (Contains-append_cases xs ys l z) as (λ _. ⊥) [ inl x ↦ old.1 x | inr y ↦ mid.1 y ]),
    λ h. (g.stands l).1 ((f.stands l).1 (h.0, λ x. h.1 (Contains-append_left xs ys l x)), λ y. h.1 (Contains-append_right xs ys l y)),
  );
  complete = g.complete;
  written = g.written ∙ f.written;
  line_places = g.line_places ∙ f.line_places;
  crossing_places = g.crossing_places ∙ f.crossing_places;
}
