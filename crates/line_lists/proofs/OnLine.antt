-- A crossing of a line stands on it, and coordinates show which of two stops lies further.
use Rattle.std.proofs.Common.{◌≡◌, ◌⊎◌, ℕ, ◌+◌, ◌<◌, ℤ, pos, negsuc, ◌<ℤ◌, ◌≤ℤ◌, Option, Some, inl, inr, refl, sym, ap, subst, ◌∙◌, arith}
use Rattle.std.specs.FinMap.{get}
use Rattle.std.specs.Int.{int_gap}
use Rattle.std.proofs.lemmas.Bool.{cases_lt}
use Rattle.std.proofs.lemmas.Int.{ints}
use Rattle.plane_geom.specs.declared.point.Point.{Point}
use Rattle.plane_geom.specs.declared.point.Way.{Way}
use Rattle.plane_geom.specs.declared.point.Way.TheVariants.{Vertical, Horizontal}
use Rattle.plane_geom.specs.declared.floor.Line.{Line}
use Rattle.plane_geom.specs.Along.{along, reach, rising}
use Rattle.plane_geom.specs.Floor.{Holds, point_on}
use Rattle.line_arena.specs.Arena.{Arena, IsArena, IsOn, LiesFurther, Pair, StandsAt, line_along}
use Rattle.line_arena.proofs.Arenas.ArenaLaws.{held_in, one_point, placed, same_pair}
use Rattle.line_lists.specs.declared.stop.Stop.{Stop}
use Rattle.line_lists.specs.Lists.{IsStopOf}

pub same_line : (x y : Line) → ◌≡◌ {A = Option Line} (Some x) (Some y) → x ≡ y
same_line x y e = cc

pub both_ways : (w : Way) → w ≡ Vertical → w ≡ Horizontal → ⊥
both_ways w e f = cc

-- an index below k + 1 is one below k, or k
pub below_or_last : (n k : ℕ) → n < k + 1 → (n < k) ⊎ (n ≡ k)
below_or_last n k lt = elim (cases_lt n k) as (λ _. (n < k) ⊎ (n ≡ k)) [ inl less ↦ inl less | inr le ↦ inr (omega (arith, lt, le)) ]

-- ---- points of a line

along_line : (w : Way) (at z : ℤ) → along w (point_on w at z) ≡ z
along_line Vertical at z = refl
along_line Horizontal at z = refl

reach_line : (w : Way) (at z : ℤ) → reach (rising w) (point_on w at z) ≡ z
reach_line Vertical at z = refl
reach_line Horizontal at z = refl

-- the point of a line that has this coordinate along it
held_there : (l : Line) (p : Point) → Holds l p → p ≡ point_on l.way l.at (along l.way p)
held_there l p h = h.here ∙ ap (point_on l.way l.at) (sym (ap (along l.way) h.here ∙ along_line l.way l.at h.along))

held_below : (l : Line) (z : ℤ) → Holds l (point_on l.way l.at z) → z ≤ℤ l.hi
held_below l z h = subst (λ (y : ℤ). y ≤ℤ l.hi) (sym (sym (along_line l.way l.at z) ∙ ap (along l.way) h.here ∙ along_line l.way l.at h.along)) h.to

-- less is left up to the end from further on
pub gap_falls : (a b hi : ℤ) → a <ℤ b → b ≤ℤ hi → int_gap b hi < int_gap a hi
gap_falls (pos a) (pos b) (pos hi) less le = omega (arith, ints, less, le)
gap_falls (pos a) (pos b) (negsuc hi) less le = absurd (omega (arith, ints, less, le))
gap_falls (pos a) (negsuc b) (pos hi) less le = absurd (omega (arith, ints, less, le))
gap_falls (pos a) (negsuc b) (negsuc hi) less le = absurd (omega (arith, ints, less, le))
gap_falls (negsuc a) (pos b) (pos hi) less le = omega (arith, ints, less, le)
gap_falls (negsuc a) (pos b) (negsuc hi) less le = absurd (omega (arith, ints, less, le))
gap_falls (negsuc a) (negsuc b) (pos hi) less le = omega (arith, ints, less, le)
gap_falls (negsuc a) (negsuc b) (negsuc hi) less le = omega (arith, ints, less, le)

-- ---- crossings of a line

pub one_of_both : (w : Way) (p : Pair) (id : ℕ) → line_along (rising w) p ≡ id → (p.vertical ≡ id) ⊎ (p.horizontal ≡ id)
one_of_both Vertical p id e = inl e
one_of_both Horizontal p id e = inr e

module _ (a : Arena) (arena : IsArena a) (id : ℕ) (line : Line) (is : get a.lines id ≡ Some line) where
  -- the line is that of the crossing along which its coordinates rise
  pub rising_line : (c : ℕ) (pair : Pair) → get a.crossings c ≡ Some pair → IsOn a id c → line_along (rising line.way) pair ≡ id
  rising_line c pair there on = by_part (subst (λ (p : Pair). (p.vertical ≡ id) ⊎ (p.horizontal ≡ id)) (same_pair on.pair pair (sym on.is ∙ there)) on.on)
    where
      by_part : (pair.vertical ≡ id) ⊎ (pair.horizontal ≡ id) → line_along (rising line.way) pair ≡ id
      by_part (inl e) =
          let m = arena.meet c pair there in
          let same = same_line m.down line (sym m.is_down ∙ ap (get a.lines) e ∙ is) in
          ap (λ (w : Way). line_along (rising w) pair) (ap (λ (l : Line). l.way) (sym same) ∙ m.down_runs) ∙ e
      by_part (inr e) =
          let m = arena.meet c pair there in
          let same = same_line m.across line (sym m.is_across ∙ ap (get a.lines) e ∙ is) in
          ap (λ (w : Way). line_along (rising w) pair) (ap (λ (l : Line). l.way) (sym same) ∙ m.across_runs) ∙ e

  -- a crossing along which the line runs stands on it
  line_holds : (c : ℕ) (pair : Pair) (p : Point) → get a.crossings c ≡ Some pair → line_along (rising line.way) pair ≡ id → StandsAt a c p → Holds line p
  line_holds c pair p there here stands =
      let u = placed a c p arena stands in
      let h = held_in a c p (rising line.way) u in
      let number : line_along (rising line.way) u.pair ≡ id = ap (line_along (rising line.way)) (same_pair u.pair pair (sym u.is ∙ there)) ∙ here in
      subst (λ (l : Line). Holds l p) (same_line h.line line (sym h.is ∙ ap (get a.lines) number ∙ is)) h.on

  -- a crossing of the line is a stop at its coordinate
  pub stop_here : (s : Stop) (p : Point) → IsOn a id s.crossing → StandsAt a s.crossing p → s.along ≡ along line.way p → IsStopOf a id line s
  stop_here s p on stands at =
      let here = rising_line s.crossing stands.pair stands.is on in
      let holds = line_holds s.crossing stands.pair p stands.is here stands in
      record {
        pair = stands.pair;
        is = stands.is;
        here = here;
        stands = subst (StandsAt a s.crossing) (held_there line p holds ∙ ap (point_on line.way line.at) (sym at)) stands;
      }

  pub stop_below : (s : Stop) → IsStopOf a id line s → s.along ≤ℤ line.hi
  stop_below s h = held_below line s.along (line_holds s.crossing h.pair (point_on line.way line.at s.along) h.is h.here h.stands)

  pub stop_on : (s : Stop) → IsStopOf a id line s → IsOn a id s.crossing
  stop_on s h = record { pair = h.pair; is = h.is; on = one_of_both line.way h.pair id h.here }

  -- what lies further than a stop is of the line too
  pub further_on_line : (s : Stop) (c : ℕ) → IsStopOf a id line s → LiesFurther a (rising line.way) s.crossing c → IsOn a id c
  further_on_line s c h f =
      let pairs = same_pair f.here h.pair (sym f.is_here ∙ h.is) in
      record { pair = f.there; is = f.is_there; on = one_of_both line.way f.there id (f.line ∙ ap (line_along (rising line.way)) pairs ∙ h.here) }

  -- of two stops that with the greater coordinate lies further
  pub further_where_more : (s t : Stop) → IsStopOf a id line s → IsStopOf a id line t → s.along <ℤ t.along → LiesFurther a (rising line.way) s.crossing t.crossing
  further_where_more s t g h less =
      let from = reach_line line.way line.at s.along in
      let to = reach_line line.way line.at t.along in
      record {
        here = g.pair;
        there = h.pair;
        is_here = g.is;
        is_there = h.is;
        line = h.here ∙ sym g.here;
        start = point_on line.way line.at s.along;
        stop = point_on line.way line.at t.along;
        stands_here = g.stands;
        stands_there = h.stands;
        further = subst (λ (z : ℤ). z <ℤ reach (rising line.way) (point_on line.way line.at t.along)) (sym from) (subst (λ (z : ℤ). s.along <ℤ z) (sym to) less);
      }

  pub more_where_further : (s t : Stop) → IsStopOf a id line s → IsStopOf a id line t → LiesFurther a (rising line.way) s.crossing t.crossing → s.along <ℤ t.along
  more_where_further s t g h f =
      let start = one_point a s.crossing f.start (point_on line.way line.at s.along) arena f.stands_here g.stands in
      let stop = one_point a t.crossing f.stop (point_on line.way line.at t.along) arena f.stands_there h.stands in
      let from : reach (rising line.way) f.start ≡ s.along = ap (reach (rising line.way)) start ∙ reach_line line.way line.at s.along in
      let to : reach (rising line.way) f.stop ≡ t.along = ap (reach (rising line.way)) stop ∙ reach_line line.way line.at t.along in
      subst (λ (z : ℤ). z <ℤ t.along) from (subst (λ (z : ℤ). reach (rising line.way) f.start <ℤ z) to f.further)
