-- The lines of an arena in order, as lines come and go.
use Rattle.std.proofs.Common.{◌≡◌, ◌≢◌, ◌⊎◌, inl, inr, ℕ, ◌+◌, ◌≤◌, ◌≤ℤ◌, List, Option, Some, None, get_or, refl, sym, ap, subst, ◌∙◌, arith}
use Rattle.std.specs.Prelude.{Contains, ◌↔◌, IfSome, IsNone, count_by, is_some}
use Rattle.std.specs.FinMap.{get}
use Rattle.std.specs.Option.{option_map}
use Rattle.std.proofs.lemmas.Bool.{cases_eq}
use Rattle.std.proofs.lemmas.Int.{ints}
use Rattle.slab.specs.Slab.{slab_len}
use Rattle.plane_geom.specs.declared.point.Point.{Point}
use Rattle.plane_geom.specs.declared.point.Way.TheVariants.{Vertical}
use Rattle.plane_geom.specs.declared.floor.Line.{Line}
use Rattle.plane_geom.specs.Floor.{Holds, first_point, point_on}
use Rattle.line_arena.specs.declared.lists.Lists.{Lists}
use Rattle.line_arena.specs.Arena.{Arena, StandsAt}
use Rattle.line_arena.specs.View.{arena_of}
use Rattle.line_arena.specs.Lists.{AreLists, IsApart, Spot, UpdatesAt, line_at, spot_at}
use Rattle.line_arena.specs.Order.{AreApart, AreOrderedWithIds, HasPlace, IsOrderedArena}
use Rattle.line_arena.proofs.Arenas.ArenaLemmas.{line_in, spot_standing, stands_at}
use Rattle.plane_geom.proofs.Order.{either_before}

pub none_there : {X : Type 0} (x : X) → ◌≡◌ {A = Option X} None (Some x) → ⊥
none_there x e = cc

one_there : {X : Type 0} (x y : X) → ◌≡◌ {A = Option X} (Some x) (Some y) → x ≡ y
one_there x y e = cc

pub none_found : {X : Type 0} {P : X → Type 0} (answer : Option X) → IfSome answer P → ((x : X) → P x → ⊥) → IsNone answer
none_found None found none = refl
none_found (Some x) found none = absurd (none x found)

-- slabs of the same slots have the same lines, and as many
pub same_lines : (a b : Lists) → b.lines.slab.slots ≡ a.lines.slab.slots → (l : ℕ) → line_at b l ≡ line_at a l
same_lines a b slots l = ap (λ s. option_map (λ e. e.0) (get_or s l None)) slots

pub same_count : (a b : Lists) → b.lines.slab.slots ≡ a.lines.slab.slots → slab_len b.lines.slab ≡ slab_len a.lines.slab
same_count a b slots = ap (count_by is_some) slots

-- a line that begins where the other one does holds its first point
holds_first : (l m : Line) → l.way ≡ m.way → l.at ≡ m.at → l.lo ≡ m.lo → l.lo ≤ℤ l.hi → Holds l (first_point m)
holds_first l m way at lo long = record {
  along = l.lo;
  from = omega (arith, ints);
  to = long;
  here = sym (λ i. point_on (way i) (at i) (lo i));
}

module _ (a : Lists) (lines : List (Line × ℕ)) (held capacity : ℕ) (kept : IsOrderedArena a lines held capacity) where
  -- a line that shares no point with one of its whole line has its place
  pub place_of_new : (line : Line) → line.lo ≤ℤ line.hi → IsApart (line_at a) line → HasPlace lines line
  place_of_new line long apart e there not =
      let is = (kept.listed e.0 e.1).0 there in
      either_before line e.0 (λ way at lo.
      apart e.1 e.0 (first_point line) is (record { way = sym way; at = sym at })
      (holds_first e.0 line (sym way) (sym at) (sym lo) (kept.lists.sound.ordered e.1 e.0 is)) (holds_first line line refl refl refl long)) not

  -- no two lines share a point
  pub apart_in : AreApart lines
  apart_in = record {
    ordered = λ e there. kept.lists.sound.ordered e.1 e.0 ((kept.listed e.0 e.1).0 there);
    apart = λ d e p di ei whole hd he.
        let is = (kept.listed d.0 d.1).0 di in
        let too = (kept.listed e.0 e.1).0 ei in
        let id = kept.lists.sound.apart d.1 e.1 d.0 e.0 p is too whole hd he in
        let line = one_there d.0 e.0 (sym is ∙ ap (line_at a) id ∙ too) in
        λ i. (line i, id i);
  }

  -- what is found in the order is a line of the arena
  module _ (w : ℕ) (v : Arena) (view : arena_of a w ≡ v) (line : Line) where
    pub line_listed : (id : ℕ) → Contains lines (line, id) → get v.lines id ≡ Some line
    line_listed id there = line_in a w v view kept.lists id ∙ (kept.listed line id).0 there

    pub none_listed : ((id : ℕ) → Contains lines (line, id) → ⊥) → (id : ℕ) → get v.lines id ≡ Some line → ⊥
    none_listed none id is = none id ((kept.listed line id).1 (sym (line_in a w v view kept.lists id) ∙ is))

  pub kept_same : (b : Lists) (to : List (Line × ℕ)) (holds more : ℕ) → AreLists b → ((l : ℕ) → line_at b l ≡ line_at a l) → slab_len b.lines.slab ≡ slab_len a.lines.slab
      → to ≡ lines → holds ≡ held → b.lines.room ≤ more → IsOrderedArena b to holds more
  kept_same b to holds more lists same count items len room =
      subst (λ ls. IsOrderedArena b ls holds more) (sym items) (record {
        lists = lists;
        ordered = kept.ordered;
        listed = λ line id. (λ c. same id ∙ (kept.listed line id).0 c, λ is. (kept.listed line id).1 (sym (same id) ∙ is));
        count = len ∙ kept.count ∙ sym count;
        room = room;
      })

  pub kept_put : (b : Lists) (to : List (Line × ℕ)) (holds places id : ℕ) (line : Line) → AreLists b → line_at a id ≡ None → UpdatesAt (line_at a) (line_at b) id (Some line)
      → slab_len b.lines.slab ≡ slab_len a.lines.slab + 1 → b.lines.room ≡ a.lines.room → AreOrderedWithIds to
      → ((e : Line × ℕ) → Contains to e ↔ ((e ≡ (line, id)) ⊎ Contains lines e)) → holds ≡ held + 1 → places ≡ capacity → IsOrderedArena b to holds places
  kept_put b to holds places id line lists new updates count room ordered there len same = record {
    lists = lists;
    ordered = ordered;
    listed = λ l q. (
      λ c. elim ((there (l, q)).0 c) [
        | inl e ↦ ap (line_at b) (ap (λ (x : Line × ℕ). x.1) e) ∙ updates.changed ∙ ap Some (sym (ap (λ (x : Line × ℕ). x.0) e))
        | inr old ↦
            let is = (kept.listed l q).0 old in
            updates.others q (λ e. none_there l (sym new ∙ ap (line_at a) (sym e) ∙ is)) ∙ is
      ],
      λ is. (there (l, q)).1 (elim (cases_eq q id) [
        | inl e ↦
            let line_is = one_there l line (sym is ∙ ap (line_at b) e ∙ updates.changed) in
            inl (λ i. (line_is i, e i))
        | inr ne ↦ inr ((kept.listed l q).1 (sym (updates.others q ne) ∙ is))
      ]),
    );
    count = omega (arith, kept.count, count, len);
    room = omega (arith, kept.room, room, same);
  }

  pub kept_removed : (b : Lists) (to : List (Line × ℕ)) (holds places id : ℕ) (line : Line) → AreLists b → line_at a id ≡ Some line → UpdatesAt (line_at a) (line_at b) id None
      → slab_len b.lines.slab + 1 ≡ slab_len a.lines.slab → b.lines.room ≡ a.lines.room → AreOrderedWithIds to
      → ((e : Line × ℕ) → Contains to e ↔ (Contains lines e × (e.0 ≢ line))) → holds + 1 ≡ held → places ≡ capacity → IsOrderedArena b to holds places
  kept_removed b to holds places id line lists was updates count room ordered left len same = record {
    lists = lists;
    ordered = ordered;
    listed = λ l q. (
      λ c.
          let old = (left (l, q)).0 c in
          let is = (kept.listed l q).0 old.0 in
          updates.others q (λ e. old.1 (one_there l line (sym is ∙ ap (line_at a) e ∙ was))) ∙ is,
      λ is. elim (cases_eq q id) [
        | inl e ↦ absurd (none_there l (sym updates.changed ∙ ap (line_at b) (sym e) ∙ is))
        | inr ne ↦
            let old = sym (updates.others q ne) ∙ is in
            let long = kept.lists.sound.ordered id line was in
            (left (l, q)).1 (
              (kept.listed l q).1 old,
              λ e.
                  ne (kept.lists.sound.apart q id l line (first_point line) old was (record { way = ap (λ (x : Line). x.way) e; at = ap (λ (x : Line). x.at) e })
                  (subst (λ (x : Line). Holds x (first_point line)) (sym e) (holds_first line line refl refl refl long)) (holds_first line line refl refl refl long)),
            )
      ],
    );
    count = omega (arith, kept.count, count, len);
    room = omega (arith, kept.room, room, same);
  }

  -- what stands at the point is on the vertical line through it
  pub column_is : (point : Point) (answer : Option ℕ) → ((e : Line × ℕ) → Contains lines e → e.0.way ≡ Vertical → Holds e.0 point → answer ≡ Some e.1)
      → (k : ℕ) (s : Spot) → spot_at a k ≡ Some s → s.point ≡ point → answer ≡ Some s.vertical
  column_is point answer only k s is at =
      let on = kept.lists.sound.on_lines k s is in
      only (on.vertical, s.vertical) ((kept.listed on.vertical s.vertical).1 on.is_vertical) on.vertical_runs (subst (Holds on.vertical) at on.on_vertical)

module _ (a : Lists) (w : ℕ) (v : Arena) (view : arena_of a w ≡ v) (lists : AreLists a) (p : Point) where
  pub at_found : (answer : Option ℕ) → IfSome answer (λ c. (s : Spot) × (spot_at a c ≡ Some s) × (s.point ≡ p)) → IfSome answer (λ c. StandsAt v c p)
  at_found None h = tt
  at_found (Some c) h = subst (StandsAt v c) h.2 (stands_at a w v view lists c h.0 h.1)

  pub at_absent : (answer : Option ℕ) → IfSome answer (λ c. (s : Spot) × (spot_at a c ≡ Some s) × (s.point ≡ p))
      → ((c : ℕ) (s : Spot) → spot_at a c ≡ Some s → s.point ≡ p → answer ≡ Some c) → IsNone answer ↔ ((c : ℕ) → StandsAt v c p → ⊥)
  at_absent None found only = (λ _ k stands. let s = spot_standing a w v view lists k p stands in none_there k (only k s.0 s.1 s.2), λ _. refl)
  at_absent (Some c) found only = (λ no. absurd (cc no), λ none. absurd (none c (at_found (Some c) found)))
