-- A walk along a horizontal line appends stop by stop, and gives each crossing its numbers.
use Rattle.std.proofs.Common.{◌≡◌, ◌≢◌, ◌⊎◌, ℕ, ◌+◌, ◌<◌, ◌<ℤ◌, ◌∷◌, [], ◌++◌, Option, None, Some, List, length, get_or, set, refl, sym, ap, subst, ◌∙◌, inl, inr, arith}
use Rattle.std.specs.Prelude.{All, AllPairs, Any, IfSome, IsNone}
use Rattle.std.specs.FinMap.{get}
use Rattle.std.specs.Int.{int_gap}
use Rattle.std.proofs.lemmas.Int.{ints}
use Rattle.std.proofs.lemmas.List.{append-nil, append_assoc, length-set, get_or-set_other, get_or-set_same}
use Rattle.std.proofs.lemmas.List.Elements.{All-nil, All-push, Contains-append_left}
use Rattle.std.proofs.lemmas.List.Quantifiers.{Any-push, all_pairs_push}
use Rattle.plane_geom.specs.declared.point.Dir.{Dir}
use Rattle.plane_geom.specs.declared.point.Dir.TheVariants.{East, South, North}
use Rattle.plane_geom.specs.declared.point.Way.{Way}
use Rattle.plane_geom.specs.declared.point.Way.TheVariants.{Vertical, Horizontal}
use Rattle.plane_geom.specs.declared.floor.Line.{Line}
use Rattle.plane_geom.specs.Along.{rising}
use Rattle.line_arena.specs.Arena.{Arena, IsArena, IsFirst, IsNearest, IsOn, LiesFurther, Pair, line_along}
use Rattle.line_arena.proofs.Arenas.ArenaLaws.{further_turned, never_further}
use Rattle.line_lists.specs.declared.stop.Numbers.{Numbers}
use Rattle.line_lists.specs.declared.stop.Stop.{Stop}
use Rattle.line_lists.specs.Lists.{IsStopOf}
use Rattle.line_lists.specs.Numbers.{no_numbers}
use Rattle.line_lists.specs.Rows.{HasRowCome, IsColumnAt, IsNorthmost, IsToldFirst, numbers_at}
use Rattle.line_lists.proofs.OnLine.{further_where_more, gap_falls, more_where_further, rising_line, same_line, stop_below, stop_on}

pub any_left : {X : Type 0} (P : X → Type 0) (xs : List X) (ys : List X) → Any P xs → Any P (xs ++ ys)
any_left P xs ys h =
    let there = Contains-append_left xs ys h.1 (h.0, h.2, h.3) in
    (there.0, h.1, there.1, there.2, h.4)

-- ---- the first crossing of a vertical line

module _ (a : Arena) (id : ℕ) (line : Line) (is : get a.lines id ≡ Some line) (way : line.way ≡ Vertical) (n : ℕ) (was : List Numbers) where
  -- a crossing of the line beyond which none lies further north is the first
  is_first : (first c : ℕ) → IsFirst a id first → IsOn a id c → IsNorthmost a c → c ≡ first
  is_first first c h on north =
      elim (h.others c on) as (λ _. c ≡ first) [
        | inl same ↦ same
        | inr further ↦ absurd (north first (further_turned a South first c
            (subst (λ (d : Dir). LiesFurther a d first c) (ap rising (ap (λ (l : Line). l.way) (same_line h.line line (sym h.is ∙ is)) ∙ way)) further)))
      ]

  pub told_first : (first : ℕ) (m : Numbers) → IsFirst a id first → first < length was → m.vertical ≡ n → IsToldFirst a id n was (set was first m)
  told_first first m h lt named = record {
    here = λ c on north.
        subst (λ (k : ℕ). (numbers_at (set was first m) k).vertical ≡ n) (sym (is_first first c h on north))
        (ap (λ (x : Numbers). x.vertical) (get_or-set_same was first m no_numbers lt) ∙ named);
    others = λ c off. get_or-set_other was first c m no_numbers (λ same. off (subst (IsOn a id) (sym same) h.on));
  }

  pub told_none : ((c : ℕ) → IsOn a id c → ⊥) → IsToldFirst a id n was was
  told_none none = record { here = λ c on north. absurd (none c on); others = λ c off. refl }

-- ---- how far a line is listed

-- the crossing of the stop has its numbers
abbrev pub put : List Numbers → Stop → ℕ → List Numbers
put numbers s n = set numbers s.crossing (record { vertical = s.across; horizontal = n })

-- how far a stop that is to come stands from the end of the line
abbrev pub left_on : Line → Option Stop → ℕ
left_on line None = 0
left_on line (Some s) = int_gap s.along line.hi + 1

module _ (a : Arena) (id : ℕ) (line : Line) (n : ℕ) where
  -- the next stop lies further than those so far, and is the nearest of those that do
  pub record IsComing (was : List Numbers) (more : List Stop) (s : Stop) : Type 0 where
    pub stop : IsStopOf a id line s
    pub column : IsColumnAt a was s.crossing s.across
    pub before : (k : ℕ) (d : Stop) → k < length more → (get_or more k d).along <ℤ s.along
    pub rest : (c : ℕ) → IsOn a id c → Any (λ t. t.crossing ≡ c) more ⊎ ((c ≡ s.crossing) ⊎ LiesFurther a (rising line.way) s.crossing c)

  abbrev pub IsRest : List Numbers → List Stop → Option Stop → Type 0
  IsRest was more None = (c : ℕ) → IsOn a id c → Any (λ t. t.crossing ≡ c) more
  IsRest was more (Some s) = IsComing was more s

  -- the line is listed up to the next stop
  pub record Walking (old now : List Stop) (was is : List Numbers) (next : Option Stop) : Type 0 where
    pub more : List Stop
    pub stops : now ≡ old ++ more
    pub places : length is ≡ length was
    pub each : All (IsStopOf a id line) more
    pub columns : All (λ s. IsColumnAt a was s.crossing s.across) more
    pub rise : AllPairs (λ s t. s.along <ℤ t.along) more
    pub here : All (λ s. numbers_at is s.crossing ≡ record { vertical = s.across; horizontal = n }) more
    pub others : (c : ℕ) → (Any (λ s. s.crossing ≡ c) more → ⊥) → numbers_at is c ≡ numbers_at was c
    pub rest : IsRest was more next

module _ (a : Arena) (arena : IsArena a) (id : ℕ) (line : Line) (is : get a.lines id ≡ Some line) (n : ℕ) where
  first_rest : (was : List Numbers) (next : Option Stop) → IfSome next (IsStopOf a id line) → IfSome next (λ s. IsColumnAt a was s.crossing s.across) → IfSome next (λ s. IsFirst a id s.crossing)
      → (IsNone next → (c : ℕ) → IsOn a id c → ⊥) → IsRest a id line n was [] next
  first_rest was None stop column first none = λ c on. absurd (none refl c on)
  first_rest was (Some s) stop column first none = record {
    stop = stop;
    column = column;
    before = λ k d lt. absurd (omega (arith, lt));
    rest = λ c on. inr (subst (λ (l : Line). (c ≡ s.crossing) ⊎ LiesFurther a (rising l.way) s.crossing c) (same_line first.line line (sym first.is ∙ is)) (first.others c on));
  }

  pub walk_begins : (old : List Stop) (was : List Numbers) (next : Option Stop) → IfSome next (IsStopOf a id line) → IfSome next (λ s. IsColumnAt a was s.crossing s.across)
      → IfSome next (λ s. IsFirst a id s.crossing) → (IsNone next → (c : ℕ) → IsOn a id c → ⊥) → Walking a id line n old old was was next
  walk_begins old was next stop column first none = record {
    more = [];
    stops = sym (append-nil old);
    places = refl;
    each = All-nil (IsStopOf a id line);
    columns = All-nil (λ (s : Stop). IsColumnAt a was s.crossing s.across);
    rise = λ i j d less lt. absurd (omega (arith, lt));
    here = All-nil (λ (s : Stop). numbers_at was s.crossing ≡ record { vertical = s.across; horizontal = n });
    others = λ c not. refl;
    rest = first_rest was next stop column first none;
  }

  -- of two stops with different coordinates the crossings differ
  pub crossings_apart : (s t : Stop) → IsStopOf a id line s → IsStopOf a id line t → s.along <ℤ t.along → s.crossing ≢ t.crossing
  crossings_apart s t g h less same =
      never_further a (rising line.way) t.crossing arena (subst (λ (c : ℕ). LiesFurther a (rising line.way) c t.crossing) same (further_where_more a arena id line is s t g h less))

  -- one stop is appended
  module _ (way : line.way ≡ Horizontal) (old now : List Stop) (was there : List Numbers) (s : Stop) (w : Walking a id line n old now was there (Some s)) (lt : s.crossing < length there) where
    -- a crossing of the line is among the stops up to this one, or lies further
    listed : (c : ℕ) → IsOn a id c → Any (λ (t : Stop). t.crossing ≡ c) (w.more ++ s ∷ []) ⊎ LiesFurther a (rising line.way) s.crossing c
    listed c on = elim (w.rest.rest c on) as (λ _. Any (λ (t : Stop). t.crossing ≡ c) (w.more ++ s ∷ []) ⊎ LiesFurther a (rising line.way) s.crossing c) [
      | inl any ↦ inl (any_left (λ (t : Stop). t.crossing ≡ c) w.more (s ∷ []) any)
      | inr more ↦ elim more as (λ _. Any (λ (t : Stop). t.crossing ≡ c) (w.more ++ s ∷ []) ⊎ LiesFurther a (rising line.way) s.crossing c) [
        | inl same ↦ inl (Any-push (λ (t : Stop). t.crossing ≡ c) w.more s (sym same))
        | inr further ↦ inr further
      ]
    ]

    each_more : All (IsStopOf a id line) (w.more ++ s ∷ [])
    each_more = All-push (IsStopOf a id line) w.more s w.each w.rest.stop

    others_more : (c : ℕ) → (Any (λ (t : Stop). t.crossing ≡ c) (w.more ++ s ∷ []) → ⊥) → numbers_at (put there s n) c ≡ numbers_at was c
    others_more c not =
        get_or-set_other there s.crossing c (record { vertical = s.across; horizontal = n }) no_numbers (λ same. not (Any-push (λ (t : Stop). t.crossing ≡ c) w.more s (sym same)))
        ∙ w.others c (λ any. not (any_left (λ (t : Stop). t.crossing ≡ c) w.more (s ∷ []) any))

    -- on one vertical line lies no other crossing of this line
    north_off : (c k : ℕ) → IsOn a id c → IsOn a id k → LiesFurther a North c k → ⊥
    north_off c k on on_too f =
        let here = ap (λ (v : Way). line_along (rising v) f.here) (sym way) ∙ rising_line a arena id line is c f.here f.is_here on in
        let there = ap (λ (v : Way). line_along (rising v) f.there) (sym way) ∙ rising_line a arena id line is k f.there f.is_there on_too in
        let level = there ∙ sym here in
        let pairs : f.there ≡ f.here = λ i. record { vertical = f.line i; horizontal = level i } in
        let same : k ≡ c = arena.once k c f.here (f.is_there ∙ ap (λ (p : Pair). Some p) pairs) f.is_here in
        never_further a North c arena (subst (LiesFurther a North c) same f)

    -- the vertical line of a crossing that is not among the stops is seen as before
    column_before : (t : Stop) → IsStopOf a id line t → (Any (λ (u : Stop). u.crossing ≡ t.crossing) (w.more ++ s ∷ []) → ⊥) → IsColumnAt a (put there s n) t.crossing t.across → IsColumnAt a was t.crossing t.across
    column_before t stop not column = elim column as (λ _. IsColumnAt a was t.crossing t.across) [
      | inl h ↦ (
          let off : IsOn a id h.0 → ⊥ = λ on. north_off t.crossing h.0 (stop_on a arena id line is t stop) on h.1.lies in
          inl (h.0, h.1, h.2 ∙ ap (λ (m : Numbers). m.vertical) (others_more h.0 (λ any. off (subst (IsOn a id) any.4 (stop_on a arena id line is any.1 (subst (IsStopOf a id line) any.3 (each_more any.0 any.1 any.2))))))))
      | inr h ↦ inr (h.0, h.1 ∙ ap (λ (m : Numbers). m.vertical) (others_more t.crossing not))
    ]

    -- the nearest stop further on has a greater coordinate
    after_this : (t : Stop) → IsStopOf a id line t → IsNearest a East s.crossing t.crossing → s.along <ℤ t.along
    after_this t stop near = more_where_further a arena id line is s t w.rest.stop stop (subst (λ (v : Way). LiesFurther a (rising v) s.crossing t.crossing) (sym way) near.lies)

    next_rest : (next : Option Stop) → IfSome next (IsStopOf a id line) → IfSome next (λ t. IsColumnAt a (put there s n) t.crossing t.across) → IfSome next (λ t. IsNearest a East s.crossing t.crossing)
        → (IsNone next → (c : ℕ) → LiesFurther a East s.crossing c → ⊥) → IsRest a id line n was (w.more ++ s ∷ []) next
    next_rest None stop column near none = λ c on. elim (listed c on) as (λ _. Any (λ (t : Stop). t.crossing ≡ c) (w.more ++ s ∷ [])) [
      | inl any ↦ any
      | inr further ↦ absurd (none refl c (subst (λ (v : Way). LiesFurther a (rising v) s.crossing c) way further))
    ]
    next_rest (Some t) stop column near none =
        let after : s.along <ℤ t.along = after_this t stop near in
        let all_before = All-push (λ (u : Stop). u.along <ℤ t.along) w.more s (λ k d lt. let less = w.rest.before k d lt in omega (arith, ints, less, after)) after in
        record {
          stop = stop;
          column = column_before t stop (λ any. crossings_apart any.1 t (subst (IsStopOf a id line) any.3 (each_more any.0 any.1 any.2)) stop
              (subst (λ (u : Stop). u.along <ℤ t.along) any.3 (all_before any.0 any.1 any.2)) any.4) column;
          before = all_before;
          rest = λ c on. elim (listed c on) as (λ _. Any (λ (u : Stop). u.crossing ≡ c) (w.more ++ s ∷ []) ⊎ ((c ≡ t.crossing) ⊎ LiesFurther a (rising line.way) t.crossing c)) [
            | inl any ↦ inl any
            | inr further ↦ inr (subst (λ (v : Way). (c ≡ t.crossing) ⊎ LiesFurther a (rising v) t.crossing c) (sym way) (near.others c (subst (λ (v : Way). LiesFurther a (rising v) s.crossing c) way further)))
          ];
        }

    pub walk_on : (next : Option Stop) → IfSome next (IsStopOf a id line) → IfSome next (λ t. IsColumnAt a (put there s n) t.crossing t.across) → IfSome next (λ t. IsNearest a East s.crossing t.crossing)
        → (IsNone next → (c : ℕ) → LiesFurther a East s.crossing c → ⊥)
        → Walking a id line n old (now ++ s ∷ []) was (put there s n) next
    walk_on next stop column near none = record {
      more = w.more ++ s ∷ [];
      stops = ap (λ (xs : List Stop). xs ++ s ∷ []) w.stops ∙ append_assoc old w.more (s ∷ []);
      places = length-set there s.crossing (record { vertical = s.across; horizontal = n }) ∙ w.places;
      each = each_more;
      columns = All-push (λ (t : Stop). IsColumnAt a was t.crossing t.across) w.more s w.columns w.rest.column;
      rise = all_pairs_push (λ (t u : Stop). t.along <ℤ u.along) w.more s w.rise w.rest.before;
      here = All-push (λ (t : Stop). numbers_at (put there s n) t.crossing ≡ record { vertical = t.across; horizontal = n }) w.more s
          (λ k d less.
          let t = get_or w.more k d in
          get_or-set_other there s.crossing t.crossing (record { vertical = s.across; horizontal = n }) no_numbers
          (crossings_apart t s (w.each k d less) w.rest.stop (w.rest.before k d less)) ∙ w.here k d less)
          (get_or-set_same there s.crossing (record { vertical = s.across; horizontal = n }) no_numbers lt);
      others = others_more;
      rest = next_rest next stop column near none;
    }

    -- and less of the line is left
    pub less_left : (next : Option Stop) → IfSome next (IsStopOf a id line) → IfSome next (λ t. IsNearest a East s.crossing t.crossing)
        → left_on line next < left_on line (Some s)
    less_left None stop near = omega arith
    less_left (Some t) stop near =
        let after = after_this t stop near in
        let less = gap_falls s.along t.along line.hi after (stop_below a arena id line is t stop) in
        omega (arith, less)

  pub walk_ends : (old now : List Stop) (was there : List Numbers) → Walking a id line n old now was there None → HasRowCome a id line n old now was there
  walk_ends old now was there w = record {
    more = w.more;
    stops = w.stops;
    are = record { each = w.each; all = w.rest; rise = w.rise };
    columns = w.columns;
    here = w.here;
    others = λ c off. w.others c (λ any. off (subst (IsOn a id) any.4 (stop_on a arena id line is any.1 (subst (IsStopOf a id line) any.3 (w.each any.0 any.1 any.2)))));
  }
