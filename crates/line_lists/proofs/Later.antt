-- The order of a line's stops is the order on the line.
use Rattle.std.proofs.Common.{◌≡◌, ℕ, ◌<◌, ◌<ℤ◌, Some, get_or, sym, ap, subst, ◌∙◌, inl, inr, arith}
use Rattle.std.specs.Prelude.{◌↔◌, slice_get}
use Rattle.std.proofs.lemmas.Bool.{cases_lt}
use Rattle.std.proofs.lemmas.Int.{ints}
use Rattle.std.proofs.lemmas.Option.{get_or_from_slice_get, slice_get-get_or, slice_get_within}
use Rattle.plane_geom.specs.declared.floor.Line.{Line}
use Rattle.plane_geom.specs.Along.{rising}
use Rattle.line_arena.specs.Arena.{Arena, IsArena, LiesFurther}
use Rattle.line_lists.specs.declared.stop.Stop.{Stop}
use Rattle.line_lists.specs.Lists.{AreListsOf, AreStopsOf, IsNumbered, IsStopOf, Lists, stops_of}
use Rattle.line_lists.proofs.OnLine.{further_on_line, further_where_more, more_where_further}

module _ (a : Arena) (lists : Lists) (arena : IsArena a) (are : AreListsOf a lists) (id n : ℕ) (line : Line) (numbered : IsNumbered a lists id n line) where
  of_line : AreStopsOf a id line (stops_of lists n)
  of_line = are.stops id n line numbered

  -- a stop that stands at a place of the list
  stop_is : (i : ℕ) (s : Stop) → slice_get (stops_of lists n) i ≡ Some s → IsStopOf a id line s
  stop_is i s at =
      subst (IsStopOf a id line) (get_or_from_slice_get (stops_of lists n) i s s at) (of_line.each i s (slice_get_within (stops_of lists n) i s at))

  rising_at : (i j : ℕ) (s t : Stop) → slice_get (stops_of lists n) i ≡ Some s → slice_get (stops_of lists n) j ≡ Some t → i < j → s.along <ℤ t.along
  rising_at i j s t at_i at_j less =
      let both = of_line.rise i j s less (slice_get_within (stops_of lists n) j t at_j) in
      subst (λ (x : Stop). x.along <ℤ t.along) (get_or_from_slice_get (stops_of lists n) i s s at_i)
      (subst (λ (x : Stop). (get_or (stops_of lists n) i s).along <ℤ x.along) (get_or_from_slice_get (stops_of lists n) j t s at_j) both)

  pub in_order : (i j : ℕ) (s t : Stop) → slice_get (stops_of lists n) i ≡ Some s → slice_get (stops_of lists n) j ≡ Some t → (i < j) ↔ LiesFurther a (rising line.way) s.crossing t.crossing
  in_order i j s t at_i at_j = (
    λ less. further_where_more a arena id line numbered.is s t (stop_is i s at_i) (stop_is j t at_j) (rising_at i j s t at_i at_j less),
    λ further.
        let more = more_where_further a arena id line numbered.is s t (stop_is i s at_i) (stop_is j t at_j) further in
        elim (cases_lt i j) as (λ _. i < j) [
          | inl less ↦ less
          | inr le ↦ elim (cases_lt j i) as (λ _. i < j) [
            | inl less ↦ absurd (let other = rising_at j i t s at_j at_i less in omega (arith, ints, more, other))
            | inr not ↦ absurd (
                let same : i ≡ j = omega (arith, le, not) in
                let one : s ≡ t = same_stop s t (sym at_i ∙ ap (slice_get (stops_of lists n)) same ∙ at_j) in
                let level = ap (λ (x : Stop). x.along) one in
                omega (arith, ints, more, level))
          ]
        ],
  )
    where
      same_stop : (x y : Stop) → Some x ≡ Some y → x ≡ y
      same_stop x y e = cc

  pub later : (i c : ℕ) (s : Stop) → slice_get (stops_of lists n) i ≡ Some s → LiesFurther a (rising line.way) s.crossing c →
      (j : ℕ) × (t : Stop) × (i < j) × (slice_get (stops_of lists n) j ≡ Some t) × (t.crossing ≡ c)
  later i c s at further =
      let any = of_line.all c (further_on_line a arena id line numbered.is s c (stop_is i s at) further) in
      let there : slice_get (stops_of lists n) any.0 ≡ Some any.1 = slice_get-get_or (stops_of lists n) any.0 any.1 any.2 ∙ ap (λ (x : Stop). Some x) any.3 in
      (any.0, any.1, (in_order i any.0 s any.1 at there).1 (subst (LiesFurther a (rising line.way) s.crossing) (sym any.4) further), there, any.4)
