-- The widest free interval around a coordinate, and the spans that touch an interval.
use Rattle.std.proofs.Common.{◌≡◌, ◌⊎◌, inl, inr, ℤ, ◌≤ℤ◌, ◌<ℤ◌, Bool, true, false, cond, ◌||◌, ◌&&◌, List, [], ◌∷◌, refl, arith}
use Rattle.std.specs.Prelude.{int_lt, filter}
use Rattle.std.specs.Int.{int_max}
use Rattle.std.specs.List.{AllByRecursion}
use Rattle.std.proofs.lemmas.Int.{ints}
use Rattle.interval_index.specs.declared.span.Span.{Span}
use Rattle.interval_index.specs.Order.{is_before, IsSorted}
use Rattle.plane_geom.specs.Point.{IsCoordinate, sheet_start, sheet_end}
use Rattle.interval_index.specs.Ends.{greatest_end_before, start_from, meets, keys_met}
use Rattle.interval_index.specs.Index.{IsListed, IsSpan, IsWidestFree, inside_any, touches, keys_touching}
use Rattle.interval_index.proofs.Everywhere.{all_map, filter_none}
use Rattle.interval_index.proofs.GreatestEnds.{lo_of_before, end_before_on_sheet}

-- a coordinate is inside a span exactly where the spans that begin before it end past it
inside_step : (at lo hi r : ℤ) (b : Bool) → int_lt at r ≡ b → int_lt at (cond (int_lt lo at) (int_max hi r) r) ≡ ((int_lt lo at && int_lt at hi) || b)
inside_step at lo hi r b e = grind (arith, ints)

inside_none : (at : ℤ) → sheet_start ≤ℤ at → int_lt at sheet_start ≡ false
inside_none at h = grind (arith, ints)

pub end_inside : (at : ℤ) (l : List Span) → sheet_start ≤ℤ at → int_lt at (greatest_end_before at l) ≡ inside_any at l
end_inside at [] h = inside_none at h
end_inside at (s ∷ l) h = inside_step at s.lo s.hi (greatest_end_before at l) (inside_any at l) (end_inside at l h)

no_further : (a : ℤ) → a ≤ℤ a
no_further a = omega (arith, ints)

not_past : (a b : ℤ) → a ≤ℤ int_max a b
not_past a b = grind (arith, ints)

further : (a b c : ℤ) → a ≤ℤ c → a ≤ℤ int_max b c
further a b c h = grind (arith, ints)

-- each span ends at `from` or before, or begins at `to` or after
clear_by : (b : Bool) (s : Span) (l : List Span) (to from : ℤ) → IsSorted (s ∷ l) → AllByRecursion (λ t. (to ≤ℤ t.lo) ⊎ (t.hi ≤ℤ from)) l → AllByRecursion (λ t. (cond b to s.lo ≤ℤ t.lo) ⊎ (t.hi ≤ℤ cond b (int_max s.hi from) from)) (s ∷ l)
clear_by true s l to from h a = (inr (not_past s.hi from), all_map (λ t. (to ≤ℤ t.lo) ⊎ (t.hi ≤ℤ from)) (λ t. (to ≤ℤ t.lo) ⊎ (t.hi ≤ℤ int_max s.hi from)) (λ t e. elim e [ inl later ↦ inl later | inr ended ↦ inr (further t.hi s.hi from ended) ]) l a)
clear_by false s l to from h a = (inl (no_further s.lo), all_map (λ t. is_before s t ≡ true) (λ t. (s.lo ≤ℤ t.lo) ⊎ (t.hi ≤ℤ from)) (λ t e. inl (lo_of_before s t e)) l h.0)

clear_all : (at z : ℤ) (l : List Span) → IsSorted l → AllByRecursion (λ t. (start_from at z l ≤ℤ t.lo) ⊎ (t.hi ≤ℤ greatest_end_before at l)) l
clear_all at z [] h = tt
clear_all at z (s ∷ l) h = clear_by (int_lt s.lo at) s l (start_from at z l) (greatest_end_before at l) h (clear_all at z l h.1)

after_step : (at lo r : ℤ) → at ≤ℤ r → at ≤ℤ cond (int_lt lo at) r lo
after_step at lo r h = grind (arith, ints)

start_after : (at z : ℤ) (l : List Span) → at ≤ℤ z → at ≤ℤ start_from at z l
start_after at z [] h = h
start_after at z (s ∷ l) h = after_step at s.lo (start_from at z l) (start_after at z l h)

start_by : (b : Bool) (lo r top : ℤ) → r ≤ℤ top → lo ≤ℤ top → cond b r lo ≤ℤ top
start_by true lo r top h k = h
start_by false lo r top h k = k

start_on_sheet : (at z : ℤ) (l : List Span) → z ≤ℤ sheet_end → AllByRecursion IsSpan l → start_from at z l ≤ℤ sheet_end
start_on_sheet at z [] h a = h
start_on_sheet at z (s ∷ l) h a = start_by (int_lt s.lo at) s.lo (start_from at z l) sheet_end (start_on_sheet at z l h a.1) a.0.lo.high

-- no free interval goes further
end_step : (at a b lo hi r : ℤ) → at ≤ℤ b → r ≤ℤ a → (b ≤ℤ lo) ⊎ (hi ≤ℤ a) → cond (int_lt lo at) (int_max hi r) r ≤ℤ a
end_step at a b lo hi r h k e = grind (arith, ints)

end_least : (at a b : ℤ) (l : List Span) → sheet_start ≤ℤ a → at ≤ℤ b → AllByRecursion (λ s. (b ≤ℤ s.lo) ⊎ (s.hi ≤ℤ a)) l → greatest_end_before at l ≤ℤ a
end_least at a b [] h k c = h
end_least at a b (s ∷ l) h k c = end_step at a b s.lo s.hi (greatest_end_before at l) k (end_least at a b l h k c.1) c.0

start_step : (at a b lo hi r : ℤ) → a ≤ℤ at → lo <ℤ hi → b ≤ℤ r → (b ≤ℤ lo) ⊎ (hi ≤ℤ a) → b ≤ℤ cond (int_lt lo at) r lo
start_step at a b lo hi r h p k e = grind (arith, ints)

start_most : (at a b z : ℤ) (l : List Span) → a ≤ℤ at → b ≤ℤ z → AllByRecursion IsSpan l → AllByRecursion (λ s. (b ≤ℤ s.lo) ⊎ (s.hi ≤ℤ a)) l → b ≤ℤ start_from at z l
start_most at a b z [] h k p c = k
start_most at a b z (s ∷ l) h k p c = start_step at a b s.lo s.hi (start_from at z l) h p.0.not_empty (start_most at a b z l h k p.1 c.1) c.0

before_both : (a b c : ℤ) → a ≤ℤ b → b ≤ℤ c → a ≤ℤ c
before_both a b c h k = omega (arith, ints, h, k)

pub widest_free : (at : ℤ) (l : List Span) → IsCoordinate at → IsListed l → greatest_end_before at l ≤ℤ at → IsWidestFree l at (greatest_end_before at l) (start_from at sheet_end l)
widest_free at l within h before =
    let after = start_after at sheet_end l within.high in
    record {
      free = record {
        from_within = record { low = end_before_on_sheet at l; high = before_both _ _ _ before within.high };
        to_within = record { low = before_both _ _ _ within.low after; high = start_on_sheet at sheet_end l (no_further sheet_end) h.spans };
        before = before;
        after = after;
        clear = clear_all at sheet_end l h.sorted;
      };
      widest = λ a b free. (end_least at a b l free.from_within.low free.after free.clear, start_most at a b sheet_end l free.before free.to_within.high h.spans free.clear);
    }

-- two open intervals
touches_meets : (lo hi : ℤ) (s : Span) → lo <ℤ hi → s.lo <ℤ s.hi → touches lo hi s ≡ meets lo hi s
touches_meets lo hi s h k = grind (arith, ints)

touches_none : (lo hi : ℤ) (s : Span) → hi ≤ℤ lo → touches lo hi s ≡ false
touches_none lo hi s h = grind (arith, ints)

filter_same : (p q : Span → Bool) (l : List Span) → AllByRecursion (λ s. p s ≡ q s) l → filter p l ≡ filter q l
filter_same p q [] a = refl
filter_same p q (s ∷ l) a = rw (a.0, filter_same p q l a.1) refl

pub keys_touching_met : (lo hi : ℤ) (l : List Span) → lo <ℤ hi → AllByRecursion IsSpan l → keys_touching lo hi l ≡ keys_met lo hi l
keys_touching_met lo hi l h a = rw (filter_same (touches lo hi) (meets lo hi) l (all_map IsSpan (λ s. touches lo hi s ≡ meets lo hi s) (λ s p. touches_meets lo hi s h p.not_empty) l a)) refl

none_touch : (lo hi : ℤ) (l : List Span) → hi ≤ℤ lo → AllByRecursion (λ s. touches lo hi s ≡ false) l
none_touch lo hi [] h = tt
none_touch lo hi (s ∷ l) h = (touches_none lo hi s h, none_touch lo hi l h)

pub keys_touching_none : (lo hi : ℤ) (l : List Span) → hi ≤ℤ lo → keys_touching lo hi l ≡ []
keys_touching_none lo hi l h = rw (filter_none (touches lo hi) l (none_touch lo hi l h)) refl
