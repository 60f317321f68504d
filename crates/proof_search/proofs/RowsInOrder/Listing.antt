-- The crossings of a line are listed from its first one on.
use Rattle.std.proofs.Common.{◌≡◌, ◌⊎◌, ℕ, ◌+◌, ◌<◌, ◌<ℤ◌, ◌≤ℤ◌, ◌∷◌, [], ◌++◌, true, Option, None, Some, List, Contains, get_or, refl, sym, ap, subst, ◌∙◌, inl, inr, arith}
use Rattle.std.specs.Prelude.{All, IfSome, IsNone}
use Rattle.std.specs.FinMap.{get}
use Rattle.std.specs.Int.{int_gap}
use Rattle.std.proofs.lemmas.Int.{ints}
use Rattle.std.proofs.lemmas.List.{get_or_default}
use Rattle.std.proofs.lemmas.List.Elements.{All-contains, Contains-append_left, Contains-push, Contains-push_cases}
use Rattle.std.proofs.lemmas.List.Quantifiers.{all_pairs_push}
use Rattle.plane_geom.specs.declared.point.Point.{Point}
use Rattle.plane_geom.specs.declared.point.Dir.TheVariants.{East}
use Rattle.plane_geom.specs.declared.point.Way.{Way}
use Rattle.plane_geom.specs.declared.point.Way.TheVariants.{Vertical, Horizontal}
use Rattle.plane_geom.specs.declared.floor.Line.{Line}
use Rattle.plane_geom.specs.Along.{rising}
use Rattle.plane_geom.specs.Floor.{Holds, point_on}
use Rattle.line_arena.specs.Arena.{Arena, IsArena, IsFirst, IsNearest, IsOn, LiesFurther, Pair, StandsAt}
use Rattle.line_arena.proofs.Arenas.ArenaLaws.{IsPlaced, one_point, placed, same_pair}
use Rattle.exit_rows.proofs.Orders.{gap_above}
use Rattle.proof_model.proofs.Lex.{lex_trans}
use Rattle.proof_search.specs.declared.spots.Spot.{Spot}
use Rattle.proof_search.specs.Spots.{AreRising, IsBeforeLine, comes_before}

same_line : (x y : Line) → ◌≡◌ {A = Option Line} (Some x) (Some y) → x ≡ y
same_line x y e = cc

vertical_not : Vertical ≡ Horizontal → ⊥
vertical_not e = cc

-- ---- the order of points

pub before_trans : (p q r : Point) → comes_before p q ≡ true → comes_before q r ≡ true → comes_before p r ≡ true
before_trans p q r e f = lex_trans 0 p.y p.x 0 q.y q.x 0 r.y r.x e f

pub before_on_line : (p q : Point) → p.y ≡ q.y → p.x <ℤ q.x → comes_before p q ≡ true
before_on_line p q y x = grind (arith, ints, y, x)

pub before_below : (p q : Point) → p.y <ℤ q.y → comes_before p q ≡ true
before_below p q y = grind (arith, ints, y)

-- ---- the points of a horizontal line

pub record IsHeldAcross (l : Line) (p : Point) : Type 0 where
  pub at : p.y ≡ l.at
  pub from : l.lo ≤ℤ p.x
  pub to : p.x ≤ℤ l.hi

pub held_across : (l : Line) (p : Point) → l.way ≡ Horizontal → Holds l p → IsHeldAcross l p
held_across l p way h =
    let is : p ≡ point_on Horizontal l.at h.along = h.here ∙ ap (λ (w : Way). point_on w l.at h.along) way in
    let x : p.x ≡ h.along = ap (λ (q : Point). q.x) is in
    record {
      at = ap (λ (q : Point). q.y) is;
      from = subst (λ z. l.lo ≤ℤ z) (sym x) h.from;
      to = subst (λ z. z ≤ℤ l.hi) (sym x) h.to;
    }

-- how far a crossing that is to come stands from the end of the line
abbrev pub left_on : Line → Option Spot → ℕ
left_on line None = 0
left_on line (Some s) = int_gap s.at.x line.hi + 1

-- ---- how far a line is listed

module _ (a : Arena) (line : Line) (id : ℕ) where
  -- where the next crossing stands, and which are still to come
  pub record IsComing (now : List Spot) (s : Spot) : Type 0 where
    pub stands : StandsAt a s.crossing s.at
    pub on : IsOn a id s.crossing
    pub holds : Holds line s.at
    pub before : (t : Spot) → Contains now t → comes_before t.at s.at ≡ true
    pub rest : (c : ℕ) (q : Point) → StandsAt a c q → IsOn a id c → Contains now (record { at = q; crossing = c })
        ⊎ ((c ≡ s.crossing) ⊎ LiesFurther a East s.crossing c)

  abbrev pub IsRest : List Spot → Option Spot → Type 0
  IsRest now None = (c : ℕ) (q : Point) → StandsAt a c q → IsOn a id c → Contains now (record { at = q; crossing = c })
  IsRest now (Some s) = IsComing now s

  -- the line is listed up to the next crossing
  pub record Listing (old now : List Spot) (next : Option Spot) : Type 0 where
    pub kept : (s : Spot) → Contains old s → Contains now s
    pub only : (s : Spot) → Contains now s → Contains old s ⊎ (StandsAt a s.crossing s.at × Holds line s.at)
    pub rise : AreRising now
    pub rest : IsRest now next

-- ---- the crossings of a horizontal line

module _ (a : Arena) (arena : IsArena a) (line : Line) (id : ℕ) (is : get a.lines id ≡ Some line) (way : line.way ≡ Horizontal) where
  -- the line is the one across
  pub is_across : (c : ℕ) (q : Point) → StandsAt a c q → IsOn a id c → (u : IsPlaced a c q) × (u.pair.horizontal ≡ id) × Holds line q
  is_across c q here on = by_part on.on
    where
      u : IsPlaced a c q
      u = placed a c q arena here

      pair : on.pair ≡ u.pair
      pair = same_pair on.pair u.pair (sym on.is ∙ u.is)

      by_part : (on.pair.vertical ≡ id) ⊎ (on.pair.horizontal ≡ id) → (v : IsPlaced a c q) × (v.pair.horizontal ≡ id) × Holds line q
      by_part (inl down) =
          let same : u.down ≡ line = same_line u.down line (sym u.is_down ∙ ap (get a.lines) (sym (ap (λ (k : Pair). k.vertical) pair) ∙ down) ∙ is) in
          absurd (vertical_not (sym u.down_runs ∙ ap (λ (l : Line). l.way) same ∙ way))
      by_part (inr across) =
          let number : u.pair.horizontal ≡ id = sym (ap (λ (k : Pair). k.horizontal) pair) ∙ across in
          let same : u.across ≡ line = same_line u.across line (sym u.is_across ∙ ap (get a.lines) number ∙ is) in
          (u, number, subst (λ (l : Line). Holds l q) same u.on_across)

  -- what lies further east is on the line too
  pub further_on_line : (c k : ℕ) (q : Point) → StandsAt a c q → IsOn a id c → LiesFurther a East c k → IsOn a id k
  further_on_line c k q here on further =
      let u = is_across c q here on in
      let pair : further.here ≡ u.0.pair = same_pair further.here u.0.pair (sym further.is_here ∙ u.0.is) in
      record { pair = further.there; is = further.is_there; on = inr (further.line ∙ ap (λ (p : Pair). p.horizontal) pair ∙ u.1) }

  pub first_coming : (old : List Spot) (s : Spot) → All (IsBeforeLine line) old → StandsAt a s.crossing s.at → IsFirst a id s.crossing
      → IsComing a line id old s
  first_coming old s before stands first =
      let u = is_across s.crossing s.at stands first.on in
      let same : first.line ≡ line = same_line first.line line (sym first.is ∙ is) in
      record {
        stands = stands;
        on = first.on;
        holds = u.2;
        before = λ t has. All-in t has;
        rest = λ c q here on. inr (subst (λ (w : Way). (c ≡ s.crossing) ⊎ LiesFurther a (rising w) s.crossing c) (ap (λ (l : Line). l.way) same ∙ way)
            (first.others c on));
      }
    where
      All-in : (t : Spot) → Contains old t → comes_before t.at s.at ≡ true
      All-in t has = All-contains (IsBeforeLine line) old t before has s.at (is_across s.crossing s.at stands first.on).2

  pub first_rest : (old : List Spot) (next : Option Spot) → All (IsBeforeLine line) old → IfSome next (λ s. StandsAt a s.crossing s.at)
      → IfSome next (λ s. IsFirst a id s.crossing) →
      (IsNone next → (c : ℕ) → IsOn a id c → ⊥) → IsRest a line id old next
  first_rest old None before stands first none = λ c q here on. absurd (none refl c on)
  first_rest old (Some s) before stands first none = first_coming old s before stands first

  -- one crossing is listed
  module _ (old now : List Spot) (s : Spot) (l : Listing a line id old now (Some s)) where
    pub more_kept : (t : Spot) → Contains old t → Contains (now ++ s ∷ []) t
    more_kept t has = Contains-append_left now (s ∷ []) t (l.kept t has)

    pub more_only : (t : Spot) → Contains (now ++ s ∷ []) t → Contains old t ⊎ (StandsAt a t.crossing t.at × Holds line t.at)
    more_only t has = elim (Contains-push_cases now s t has) as (λ _. Contains old t ⊎ (StandsAt a t.crossing t.at × Holds line t.at)) [
      | inl was ↦ l.only t was
      | inr same ↦ inr (subst (λ (u : Spot). StandsAt a u.crossing u.at × Holds line u.at) same (l.rest.stands, l.rest.holds))
    ]

    pub more_rise : AreRising (now ++ s ∷ [])
    more_rise = all_pairs_push (λ t u. comes_before t.at u.at ≡ true) now s l.rise
        (λ k d lt. l.rest.before (get_or now k d) (k, lt, get_or_default now k (get_or now k d) d lt))

    -- a crossing of the line that is not the next one and does not lie further is listed
    listed : (c : ℕ) (q : Point) → StandsAt a c q → IsOn a id c → Contains (now ++ s ∷ []) (record { at = q; crossing = c }) ⊎ LiesFurther a East s.crossing c
    listed c q here on = elim (l.rest.rest c q here on) as (λ _. Contains (now ++ s ∷ []) (record { at = q; crossing = c }) ⊎ LiesFurther a East s.crossing c) [
      | inl has ↦ inl (Contains-append_left now (s ∷ []) (record { at = q; crossing = c }) has)
      | inr more ↦ elim more as (λ _. Contains (now ++ s ∷ []) (record { at = q; crossing = c }) ⊎ LiesFurther a East s.crossing c) [
        | inl same ↦ (
            let point : s.at ≡ q = one_point a s.crossing s.at q arena l.rest.stands (subst (λ k. StandsAt a k q) same here) in
            let it : ◌≡◌ {A = Spot} s (record { at = q; crossing = c }) = λ i. record { at = point i; crossing = sym same i } in
            inl (subst (Contains (now ++ s ∷ [])) it (Contains-push now s)))
        | inr further ↦ inr further
      ]
    ]

    pub next_coming : (t : Spot) → StandsAt a t.crossing t.at → IsNearest a East s.crossing t.crossing → IsComing a line id (now ++ s ∷ []) t
    next_coming t stands near =
        let on = further_on_line s.crossing t.crossing s.at l.rest.stands l.rest.on near.lies in
        let u = is_across t.crossing t.at stands on in
        let here = held_across line s.at way l.rest.holds in
        let there = held_across line t.at way u.2 in
        let start = one_point a s.crossing near.lies.start s.at arena near.lies.stands_here l.rest.stands in
        let stop = one_point a t.crossing near.lies.stop t.at arena near.lies.stands_there stands in
        let further : s.at.x <ℤ t.at.x = subst (λ (p : Point). p.x <ℤ t.at.x) start (subst (λ (p : Point). near.lies.start.x <ℤ p.x) stop near.lies.further) in
        let after : comes_before s.at t.at ≡ true = before_on_line s.at t.at (here.at ∙ sym there.at) further in
        record {
          stands = stands;
          on = on;
          holds = u.2;
          before = λ r has. elim (Contains-push_cases now s r has) as (λ _. comes_before r.at t.at ≡ true) [
            | inl was ↦ before_trans r.at s.at t.at (l.rest.before r was) after
            | inr same ↦ subst (λ (v : Spot). comes_before v.at t.at ≡ true) same after
          ];
          rest = λ c q at on_line. elim (listed c q at on_line) as (λ _. Contains (now ++ s ∷ []) (record { at = q; crossing = c })
              ⊎ ((c ≡ t.crossing) ⊎ LiesFurther a East t.crossing c)) [
                | inl has ↦ inl has
                | inr past ↦ inr (near.others c past)
              ];
        }

    pub next_rest : (next : Option Spot) → IfSome next (λ t. StandsAt a t.crossing t.at) → IfSome next (λ t. IsNearest a East s.crossing t.crossing) →
        (IsNone next → (c : ℕ) → LiesFurther a East s.crossing c → ⊥) → IsRest a line id (now ++ s ∷ []) next
    next_rest None stands near none = λ c q at on. elim (listed c q at on) as (λ _. Contains (now ++ s ∷ []) (record { at = q; crossing = c })) [
      | inl has ↦ has
      | inr past ↦ absurd (none refl c past)
    ]
    next_rest (Some t) stands near none = next_coming t stands near

    pub more : (next : Option Spot) → IsRest a line id (now ++ s ∷ []) next → Listing a line id old (now ++ s ∷ []) next
    more next rest = record { kept = more_kept; only = more_only; rise = more_rise; rest = rest }

    -- and less of the line is left
    pub nearer : (t : Spot) → IsComing a line id (now ++ s ∷ []) t → int_gap t.at.x line.hi < int_gap s.at.x line.hi
    nearer t coming =
        let here = held_across line s.at way l.rest.holds in
        let there = held_across line t.at way coming.holds in
        let after = coming.before s (Contains-push now s) in
        let further : s.at.x <ℤ t.at.x = later_x s.at t.at (here.at ∙ sym there.at) after in
        let g = gap_above s.at.x line.hi here.to in
        let h = gap_above t.at.x line.hi there.to in
        omega (arith, ints, g, h, further)
      where
        later_x : (p q : Point) → p.y ≡ q.y → comes_before p q ≡ true → p.x <ℤ q.x
        later_x p q y e = grind (arith, ints, y, e)

    pub less_left : (next : Option Spot) → IsRest a line id (now ++ s ∷ []) next → left_on line next < left_on line (Some s)
    less_left None rest = omega arith
    less_left (Some t) rest = let less = nearer t rest in omega (arith, less)
