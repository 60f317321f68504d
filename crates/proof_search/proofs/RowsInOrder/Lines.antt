-- The horizontal lines are listed one after another.
use Rattle.std.proofs.Common.{
  ◌≡◌,
  ◌⊎◌,
  ℕ,
  ◌+◌,
  ◌<◌,
  ◌≤◌,
  ◌<ℤ◌,
  ◌≤ℤ◌,
  ◌∷◌,
  [],
  ◌++◌,
  true,
  Option,
  Some,
  List,
  Contains,
  length,
  get_or,
  take,
  refl,
  sym,
  ap,
  subst,
  ◌∙◌,
  inl,
  inr,
  arith,
}
use Rattle.std.specs.Prelude.{All, ◌||◌, ◌&&◌, ◌↔◌, int_lt}
use Rattle.std.specs.Ordering.{int_eq}
use Rattle.std.specs.FinMap.{get}
use Rattle.std.proofs.lemmas.Bool.{cases_Bool}
use Rattle.std.proofs.lemmas.Int.{ints}
use Rattle.std.proofs.lemmas.List.{get_or-take, get_or_default, length-take-le, take_more}
use Rattle.std.proofs.lemmas.List.Elements.{Contains-append_left, Contains-push, Contains-push_cases}
use Rattle.plane_geom.specs.declared.point.Point.{Point}
use Rattle.plane_geom.specs.declared.point.Way.{Way}
use Rattle.plane_geom.specs.declared.point.Way.TheVariants.{Horizontal}
use Rattle.plane_geom.specs.declared.floor.Line.{Line}
use Rattle.plane_geom.specs.Floor.{Holds, point_on}
use Rattle.plane_geom.specs.Order.{stands_before, way_before}
use Rattle.line_arena.specs.Arena.{Arena, IsArena, IsOn}
use Rattle.line_arena.specs.Order.{AreOrderedWithIds}
use Rattle.line_arena.proofs.Arenas.ArenaLaws.{placed}
use Rattle.proof_search.specs.declared.spots.Spot.{Spot}
use Rattle.proof_search.specs.Spots.{AreOfLines, AreSpots, HasLineCome, IsBeforeLine, IsOfLines, comes_before}
use Rattle.proof_search.proofs.RowsInOrder.Listing.{IsHeldAcross, before_below, before_on_line, held_across}

same_line : (x y : Line) → ◌≡◌ {A = Option Line} (Some x) (Some y) → x ≡ y
same_line x y e = cc

-- what the order of two horizontal lines says
earlier : (l m : Line) → l.way ≡ Horizontal → m.way ≡ Horizontal → stands_before l m ≡ true → (l.at <ℤ m.at) ⊎ ((l.at ≡ m.at) × (l.lo <ℤ m.lo))
earlier l m wl wm e =
    let rest : (int_lt l.at m.at || (int_eq l.at m.at && int_lt l.lo m.lo)) ≡ true =
    sym (λ i. way_before (wl i) (wm i) (int_lt l.at m.at || (int_eq l.at m.at && int_lt l.lo m.lo))) ∙ e in
    elim (cases_Bool (int_lt l.at m.at)) as (λ _. (l.at <ℤ m.at) ⊎ ((l.at ≡ m.at) × (l.lo <ℤ m.lo))) [
      | inl less ↦ inl (grind (arith, ints, less))
      | inr not_less ↦ inr (grind (arith, ints, rest, not_less), grind (arith, ints, rest, not_less))
    ]

-- the point of a horizontal line stands there
on_line : (l : Line) (p : Point) → l.way ≡ Horizontal → p.y ≡ l.at → l.lo ≤ℤ p.x → p.x ≤ℤ l.hi → Holds l p
on_line l p way y lo hi = record {
  along = p.x;
  from = lo;
  to = hi;
  here = (λ i. record { x = p.x; y = y i }) ∙ ap (λ (w : Way). point_on w l.at p.x) (sym way);
}

module _ (a : Arena) (arena : IsArena a) where
  -- the points of the one of two lines in order stand before those of the other
  points_before : (i j : ℕ) (l m : Line) → get a.lines i ≡ Some l → get a.lines j ≡ Some m → l.way ≡ Horizontal → m.way ≡ Horizontal
      → stands_before l m ≡ true →
      (p q : Point) → Holds l p → Holds m q → comes_before p q ≡ true
  points_before i j l m is_l is_m wl wm order p q on_l on_m = by_order (earlier l m wl wm order)
    where
      here : IsHeldAcross l p
      here = held_across l p wl on_l

      there : IsHeldAcross m q
      there = held_across m q wm on_m

      by_order : (l.at <ℤ m.at) ⊎ ((l.at ≡ m.at) × (l.lo <ℤ m.lo)) → comes_before p q ≡ true
      by_order (inl less) = before_below p q (omega (arith, ints, less, here.at, there.at))
      by_order (inr (same, less)) = elim (cases_Bool (int_lt p.x q.x)) as (λ _. comes_before p q ≡ true) [
        | inl x ↦ before_on_line p q (here.at ∙ same ∙ sym there.at) (grind (arith, ints, x))
        | inr not ↦ (
            let upto : q.x ≤ℤ p.x = grind (arith, ints, not) in
            let both : Holds l q = on_line l q wl (there.at ∙ sym same) (omega (arith, ints, less, there.from)) (omega (arith, ints, upto, here.to)) in
            let one : i ≡ j = arena.apart i j l m q is_l is_m (record { way = wl ∙ sym wm; at = same }) both on_m in
            let line : l ≡ m = same_line l m (sym is_l ∙ ap (get a.lines) one ∙ is_m) in
            let lo : l.lo ≡ m.lo = ap (λ (k : Line). k.lo) line in
            absurd (omega (arith, ints, lo, less)))
      ]

  -- the lines so far, and the one that comes next in order
  module _ (lines : List (Line × ℕ)) (e : Line × ℕ) (known : (f : Line × ℕ) → Contains lines f → get a.lines f.1 ≡ Some f.0)
      (order : (f : Line × ℕ) → Contains lines f → stands_before f.0 e.0 ≡ true)
      (is : get a.lines e.1 ≡ Some e.0) (old : List Spot) (so_far : AreOfLines a lines old) where
    still_listed : (s : Spot) → IsOfLines a lines s → IsOfLines a (lines ++ e ∷ []) s
    still_listed s h = record {
      stands = h.stands;
      entry = h.entry;
      listed = Contains-append_left lines (e ∷ []) h.entry h.listed;
      way = h.way;
      holds =
          h.holds;
    }

    -- all spots so far stand before the line
    pub all_before : e.0.way ≡ Horizontal → All (IsBeforeLine e.0) old
    all_before way k d lt q holds =
        let s = get_or old k d in
        let h = so_far.only s (k, lt, get_or_default old k s d lt) in
        points_before h.entry.1 e.1 h.entry.0 e.0 (known h.entry h.listed) is h.way way (order h.entry h.listed) s.at q h.holds holds

    -- its crossings become them
    pub line_more : (new : List Spot) → e.0.way ≡ Horizontal → HasLineCome a e.0 e.1 old new → AreOfLines a (lines ++ e ∷ []) new
    line_more new way come = record {
      only = λ s has. elim (come.only s has) as (λ _. IsOfLines a (lines ++ e ∷ []) s) [
        | inl was ↦ still_listed s (so_far.only s was)
        | inr on ↦ record { stands = on.0; entry = e; listed = Contains-push lines e; way = way; holds = on.1 }
      ];
      all = λ f listed across c q here on. elim (Contains-push_cases lines e f listed) as (λ _. Contains new (record { at = q; crossing = c })) [
        | inl was ↦ come.kept (record { at = q; crossing = c }) (so_far.all f was across c q here on)
        | inr same ↦ come.all c q here (subst (λ (g : Line × ℕ). IsOn a g.1 c) (sym same) on)
      ];
      rise = come.rise;
    }

    -- a vertical line adds none
    pub line_past : (e.0.way ≡ Horizontal → ⊥) → AreOfLines a (lines ++ e ∷ []) old
    line_past vertical = record {
      only = λ s has. still_listed s (so_far.only s has);
      all = λ f listed across c q here on. elim (Contains-push_cases lines e f listed) as (λ _. Contains old (record { at = q; crossing = c })) [
        | inl was ↦ so_far.all f was across c q here on
        | inr same ↦ absurd (vertical (ap (λ (g : Line × ℕ). g.0.way) same ∙ across))
      ];
      rise = so_far.rise;
    }

  -- of all lines all crossings are listed
  pub all_spots : (lines : List (Line × ℕ)) (spots : List Spot) → ((line : Line) (id : ℕ) → get a.lines id ≡ Some line → Contains lines (line, id))
      → AreOfLines a lines spots → AreSpots a spots
  all_spots lines spots all h = record {
    stand = λ k d lt. (h.only (get_or spots k d) (k, lt, get_or_default spots k (get_or spots k d) d lt)).stands;
    all = λ c q here. (let u = placed a c q arena here in h.all (u.across, u.pair.horizontal) (all u.across u.pair.horizontal u.is_across) u.across_runs c q
        here (record { pair = u.pair; is = u.is; on = inr refl }));
    rise = h.rise;
  }

-- what stands among the first elements
pub in_front : {X : Type 0} (xs : List X) (i : ℕ) (d y : X) → i ≤ length xs → Contains (take i xs) y → (k : ℕ) × (k < i) × (get_or xs k d ≡ y)
in_front xs i d y le has =
    let long : length (take i xs) ≡ i = length-take-le i xs le in
    let less : has.0 < i = omega (arith, has.1, long) in
    (has.0, less, get_or_default xs has.0 d y (omega (arith, less, le)) ∙ sym (get_or-take i xs has.0 y less) ∙ has.2)

-- the line at a place of all lines, in order
module _ (a : Arena) (arena : IsArena a) (lines : List (Line × ℕ)) (ordered : AreOrderedWithIds lines)
    (listed : (line : Line) (id : ℕ) → Contains lines (line, id) ↔ (get a.lines id ≡ Some line))
    (i : ℕ) (e : Line × ℕ) (lt : i < length lines) (at : e ≡ get_or lines i e) where
  pub line_is : get a.lines e.1 ≡ Some e.0
  line_is = (listed e.0 e.1).0 (i, lt, sym at)

  front_known : (f : Line × ℕ) → Contains (take i lines) f → get a.lines f.1 ≡ Some f.0
  front_known f has = let there = in_front lines i e f (omega (arith, lt)) has in (listed f.0 f.1).0
      (there.0, omega (arith, there.1, lt), get_or_default lines there.0 f e (omega (arith, there.1, lt)) ∙ there.2)

  front_order : (f : Line × ℕ) → Contains (take i lines) f → stands_before f.0 e.0 ≡ true
  front_order f has =
      let there = in_front lines i e f (omega (arith, lt)) has in
      subst (λ (g : Line × ℕ). stands_before g.0 e.0 ≡ true) there.2 (subst (λ (g : Line × ℕ). stands_before (get_or lines there.0 e).0 g.0 ≡ true) (sym at)
      (ordered there.0 i e there.1 lt))

  cut : take (i + 1) lines ≡ take i lines ++ e ∷ []
  cut = take_more lines i e lt ∙ ap (λ (f : Line × ℕ). take i lines ++ f ∷ []) (sym at)

  module _ (spots : List Spot) (so_far : AreOfLines a (take i lines) spots) where
    pub spots_before : e.0.way ≡ Horizontal → All (IsBeforeLine e.0) spots
    spots_before = all_before a arena (take i lines) e front_known front_order line_is spots so_far

    pub spots_more : (new : List Spot) → e.0.way ≡ Horizontal → HasLineCome a e.0 e.1 spots new → AreOfLines a (take (i + 1) lines) new
    spots_more new way come = subst (λ ls. AreOfLines a ls new) (sym cut)
        (line_more a arena (take i lines) e front_known front_order line_is spots so_far new way come)

    pub spots_past : (e.0.way ≡ Horizontal → ⊥) → AreOfLines a (take (i + 1) lines) spots
    spots_past vertical = subst (λ ls. AreOfLines a ls spots) (sym cut) (line_past a arena (take i lines) e front_known front_order line_is spots so_far
        vertical)

-- no line, no spot
pub no_spots : (a : Arena) (spots : List Spot) → spots ≡ [] → AreOfLines a [] spots
no_spots a spots none = subst (AreOfLines a []) (sym none) (record {
  only = λ s has. absurd (omega (arith, has.1));
  all = λ f listed across c q here on. absurd (omega (arith, listed.1));
  rise = λ i j d less within. absurd (omega (arith, within));
})
