-- Lines come with all their crossings, one line after another.
use Rattle.std.proofs.Common.{◌≡◌, ◌⊎◌, inl, inr, ℕ, ◌+◌, ◌-◌, ◌^◌, ◌<◌, ◌≤◌, true, List, [], ◌∷◌, ◌++◌, length, get_or, take, None, Some, refl, sym, ap, subst, ◌∙◌, arith}
use Rattle.std.specs.Prelude.{Contains, count_by, filter}
use Rattle.std.specs.FinMap.{get, insert, len}
use Rattle.std.proofs.lemmas.List.{length-append, get_or-take, length-take-le}
use Rattle.std.proofs.lemmas.List.Elements.{Contains-append_left, Contains-append_right, Contains-append_cases, Contains-get_or}
use Rattle.std.proofs.lemmas.List.Sums.{length-filter}
use Rattle.plane_geom.specs.declared.point.Way.{Way}
use Rattle.plane_geom.specs.declared.point.Way.TheVariants.{Vertical, Horizontal}
use Rattle.plane_geom.specs.declared.floor.Line.{Line}
use Rattle.line_arena.specs.Arena.{Arena, IsApart, IsArena, Meet}
use Rattle.line_arena.specs.Stands.{HasLine, IsComplete}
use Rattle.line_arena.proofs.Arenas.ArenaLaws.{across_where_meet, within_line_put}
use Rattle.plane_geom.specs.Order.{AreOrdered, stands_before}
use Rattle.sweep_lines.proofs.Members.{among_filter, among_of_contains, contains_of_among}
use Rattle.visibility_graph.specs.Meeting.{coming, meets}
use Rattle.line_arena.specs.Count.{counted_by}
use Rattle.line_arena.proofs.Counting.{counted_on}
use Rattle.visibility_graph.specs.Fill.{AreLines, ArePut, AreStrange, CanPut, IsCrossed, IsUncrossed, pair_along}
use Rattle.visibility_graph.proofs.Counts.{meets_back}
use Rattle.visibility_graph.proofs.Lines.{in_put, meets_of_across, not_none, one_more, put_there}
use Rattle.visibility_graph.proofs.Crossed.{not_before, only_one, the_one}

-- a line under a new id has no crossing yet
pub no_crossing : (a : Arena) (id : ℕ) (way : Way) (o c : ℕ) → IsArena a → get a.lines id ≡ None → get a.crossings c ≡ Some (pair_along way id o) → ⊥
no_crossing a id Vertical o c arena free is = let m = arena.meet c (pair_along Vertical id o) is in not_none m.down (sym free ∙ m.is_down)
no_crossing a id Horizontal o c arena free is = let m = arena.meet c (pair_along Horizontal id o) is in not_none m.across (sym free ∙ m.is_across)

-- the arena once a line stands in it
pub record IsLinePut (a b : Arena) (id : ℕ) (line : Line) : Type 0 where
  pub free : get a.lines id ≡ None
  pub after : b ≡ record a { lines = insert a.lines id line; spare_lines = a.spare_lines - 1; written = counted_by 1 a.written }
  pub room : 0 < a.spare_lines

module _ (a b : Arena) (id : ℕ) (line : Line) (put : IsLinePut a b id line) where
  pub put_lines : b.lines ≡ insert a.lines id line
  put_lines = ap (λ (x : Arena). x.lines) put.after

  pub put_crossings : b.crossings ≡ a.crossings
  put_crossings = ap (λ (x : Arena). x.crossings) put.after

  pub line_there : get b.lines id ≡ Some line
  line_there = ap (λ m. get m id) put_lines ∙ put_there a.lines id line

  pub there_more : (l : ℕ) (other : Line) → get a.lines l ≡ Some other → get b.lines l ≡ Some other
  there_more = (within_line_put a b id line put.free put_lines put_crossings).lines

  pub uncrossed_yet : (way : Way) (other : Line) → IsArena a → IsUncrossed b id way other
  uncrossed_yet way other arena = λ o c is there. no_crossing a id way o c arena put.free (ap (λ m. get m c) (sym put_crossings) ∙ there)

  -- a line that is there now is the one that was put, or was there
  line_cases : (l : ℕ) (other : Line) → get b.lines l ≡ Some other → ((l ≡ id) × (other ≡ line)) ⊎ (get a.lines l ≡ Some other)
  line_cases l other is = in_put a.lines id l line other (ap (λ m. get m l) (sym put_lines) ∙ is)

  -- all crossings of the line have come
  module _ (c : Arena) (stay before : List Line) (lines : AreLines a (stay ++ before)) (complete : IsComplete a)
      (f : IsCrossed b c id line.way (filter (meets line) stay ++ filter (meets line) before)) where
    met : (other : Line) (o : ℕ) → get a.lines o ≡ Some other → meets line other ≡ true → Contains (filter (meets line) stay ++ filter (meets line) before) other
    met other o is e = elim (Contains-append_cases stay before other ((lines other).0 (o, is))) as (λ _. Contains (filter (meets line) stay ++ filter (meets line) before) other) [
      | inl h ↦ Contains-append_left (filter (meets line) stay) (filter (meets line) before) other (contains_of_among (filter (meets line) stay) other (among_filter (meets line) stay other (among_of_contains stay other h) e))
      | inr h ↦ Contains-append_right (filter (meets line) stay) (filter (meets line) before) other (contains_of_among (filter (meets line) before) other (among_filter (meets line) before other (among_of_contains before other h) e))
    ]

    crossing_with : (other : Line) (o : ℕ) → get a.lines o ≡ Some other → meets line other ≡ true → (k : ℕ) × (get c.crossings k ≡ Some (pair_along line.way id o))
    crossing_with other o is e = f.come other o (met other o is e) (there_more o other is)

    crossing_of : (v h : ℕ) → Meet c v h → (k : ℕ) × (get c.crossings k ≡ Some (record { vertical = v; horizontal = h }))
    crossing_of v h m =
        let across = across_where_meet c v h m.down m.across m.is_down m.is_across m in
        let e : meets m.down m.across ≡ true = meets_of_across m.down m.across across in
        let is_down : get b.lines v ≡ Some m.down = ap (λ x. get x v) (sym f.lines) ∙ m.is_down in
        let is_across : get b.lines h ≡ Some m.across = ap (λ x. get x h) (sym f.lines) ∙ m.is_across in
        elim (line_cases v m.down is_down) as (λ _. (k : ℕ) × (get c.crossings k ≡ Some (record { vertical = v; horizontal = h }))) [
          | inl d ↦ elim (line_cases h m.across is_across) as (λ _. (k : ℕ) × (get c.crossings k ≡ Some (record { vertical = v; horizontal = h }))) [
            | inl r ↦ absurd (let both : Vertical ≡ Horizontal = sym m.down_runs ∙ ap (λ (l : Line). l.way) (d.1 ∙ sym r.1) ∙ m.across_runs in cc)
            | inr r ↦ (
                let k = crossing_with m.across h r (subst (λ (l : Line). meets l m.across ≡ true) d.1 e) in
                let way : line.way ≡ Vertical = ap (λ (l : Line). l.way) (sym d.1) ∙ m.down_runs in
                (k.0, k.1 ∙ ap (λ w. Some (pair_along w id h)) way ∙ ap (λ i. Some (pair_along Vertical i h)) (sym d.0)))
          ]
          | inr d ↦ elim (line_cases h m.across is_across) as (λ _. (k : ℕ) × (get c.crossings k ≡ Some (record { vertical = v; horizontal = h }))) [
            | inl r ↦ (
                let k = crossing_with m.down v d (meets_back line m.down ∙ subst (λ (l : Line). meets m.down l ≡ true) r.1 e) in
                let way : line.way ≡ Horizontal = ap (λ (l : Line). l.way) (sym r.1) ∙ m.across_runs in
                (k.0, k.1 ∙ ap (λ w. Some (pair_along w id v)) way ∙ ap (λ i. Some (pair_along Horizontal i v)) (sym r.0)))
            | inr r ↦ (
                let k = complete v h (record { down = m.down; across = m.across; is_down = d; is_across = r; down_runs = m.down_runs; across_runs = m.across_runs; point = m.point; on_down = m.on_down; on_across = m.on_across }) in
                (k.0, f.stay k.0 _ (ap (λ x. get x k.0) put_crossings ∙ k.1)))
          ]
        ]

    pub put_with_all : ArePut a c (line ∷ []) (count_by (meets line) stay + count_by (meets line) before)
    put_with_all =
        let long : length (filter (meets line) stay ++ filter (meets line) before) ≡ count_by (meets line) stay + count_by (meets line) before =
        length-append (filter (meets line) stay) (filter (meets line) before) ∙ ap (λ n. n + length (filter (meets line) before)) (length-filter (meets line) stay) ∙ ap (λ n. count_by (meets line) stay + n) (length-filter (meets line) before) in
        let spare : b.spare_lines ≡ a.spare_lines - 1 = ap (λ (x : Arena). x.spare_lines) put.after in
        let spare_crossings : b.spare_crossings ≡ a.spare_crossings = ap (λ (x : Arena). x.spare_crossings) put.after in
        let room = put.room in
        let left : c.spare_lines ≡ b.spare_lines = f.spare_lines in
        record {
          stands = λ l. (
            λ h. elim (line_cases h.0 l (ap (λ m. get m h.0) (sym f.lines) ∙ h.1)) as (λ _. HasLine a l ⊎ Contains (line ∷ []) l) [
              | inl d ↦ inr (subst (Contains (line ∷ [])) (sym d.1) (the_one line))
              | inr old ↦ inl (h.0, old)
            ],
            λ h. elim h as (λ _. HasLine c l) [
              | inl old ↦ (old.0, ap (λ m. get m old.0) f.lines ∙ there_more old.0 l old.1)
              | inr one ↦ (id, ap (λ m. get m id) f.lines ∙ line_there ∙ ap Some (only_one line l one))
            ],
          );
          complete = crossing_of;
          line_entries = ap len f.lines ∙ ap len put_lines ∙ one_more a.lines id line put.free;
          crossing_entries = f.entries ∙ ap (λ m. len m + length (filter (meets line) stay ++ filter (meets line) before)) put_crossings ∙ ap (λ n. len a.crossings + n) long;
          spare_lines = omega arith;
          spare_crossings = ap (λ n. c.spare_crossings + n) (sym long) ∙ f.spare_crossings ∙ spare_crossings;
          written = f.written ∙ ap (λ n. counted_by n b.written) long ∙ ap (counted_by (count_by (meets line) stay + count_by (meets line) before)) (ap (λ (x : Arena). x.written) put.after)
              ∙ counted_on 1 (count_by (meets line) stay + count_by (meets line) before) a.written;
        }

-- ---- one line after another

pub put_on : (a b c : Arena) (xs ys : List Line) (m n : ℕ) → ArePut a b xs m → ArePut b c ys n → ArePut a c (xs ++ ys) (m + n)
put_on a b c xs ys m n f g =
    let long = length-append xs ys in
    record {
      stands = λ l. (
        λ h. elim ((g.stands l).0 h) as (λ _. HasLine a l ⊎ Contains (xs ++ ys) l) [
          | inl mid ↦ elim ((f.stands l).0 mid) as (λ _. HasLine a l ⊎ Contains (xs ++ ys) l) [ inl old ↦ inl old | inr x ↦ inr (Contains-append_left xs ys l x) ]
          | inr y ↦ inr (Contains-append_right xs ys l y)
        ],
        λ h. elim h as (λ _. HasLine c l) [
          | inl old ↦ (g.stands l).1 (inl ((f.stands l).1 (inl old)))
          | inr z ↦ elim (Contains-append_cases xs ys l z) as (λ _. HasLine c l) [ inl x ↦ (g.stands l).1 (inl ((f.stands l).1 (inr x))) | inr y ↦ (g.stands l).1 (inr y) ]
        ],
      );
      complete = g.complete;
      line_entries = omega (arith, f.line_entries, g.line_entries, long);
      crossing_entries = omega (arith, f.crossing_entries, g.crossing_entries);
      spare_lines = omega (arith, f.spare_lines, g.spare_lines, long);
      spare_crossings = omega (arith, f.spare_crossings, g.spare_crossings);
      written = g.written ∙ ap (counted_by (length ys + n)) f.written ∙ counted_on (length xs + m) (length ys + n) a.written
          ∙ ap (λ k. counted_by k a.written) (let e : (length xs + m) + (length ys + n) ≡ length (xs ++ ys) + (m + n) = omega (arith, long) in e);
    }

pub of_take : {X : Type 0} (xs : List X) (i : ℕ) (x : X) → i ≤ length xs → Contains (take i xs) x → Contains xs x
of_take xs i x l c = let low : c.0 < i = omega (arith, c.1, length-take-le i xs l) in (c.0, omega arith, sym (get_or-take i xs c.0 x low) ∙ c.2)

pub ordered_take : (ls : List Line) (i : ℕ) → i ≤ length ls → AreOrdered ls → AreOrdered (take i ls)
ordered_take ls i l ordered = λ j k d low high.
    let short : k < i = omega (arith, high, length-take-le i ls l) in
    let first = get_or-take i ls j d (omega arith) in
    let second = get_or-take i ls k d short in
    subst (λ x. stands_before x (get_or (take i ls) k d) ≡ true) (sym first) (subst (λ x. stands_before (get_or ls j d) x ≡ true) (sym second) (ordered j k d low (omega arith)))

-- what may be put beside the lines that stay, once a front of the lines has come
module _ (a b : Arena) (new stay : List Line) (i : ℕ) (can : CanPut a new stay) (inside : i < length new) (f : ArePut a b (take i new) (coming (take i new) stay)) where
  pub lines_now : AreLines b (stay ++ take i new)
  lines_now = λ l. (
    λ h. elim ((f.stands l).0 h) as (λ _. Contains (stay ++ take i new) l) [
      | inl old ↦ Contains-append_left stay (take i new) l ((can.lines l).0 old)
      | inr x ↦ Contains-append_right stay (take i new) l x
    ],
    λ h. elim (Contains-append_cases stay (take i new) l h) as (λ _. HasLine b l) [
      | inl s ↦ (f.stands l).1 (inl ((can.lines l).1 s))
      | inr x ↦ (f.stands l).1 (inr x)
    ],
  )

  pub strange_now : AreStrange stay (take i new)
  strange_now = λ l s x. can.strange l s (of_take new i l (omega arith) x)

  pub apart_now : (d : Line) → IsApart b (get_or new i d)
  apart_now d = λ l other p is whole on there.
      let here = Contains-get_or new i d inside in
      elim ((f.stands other).0 (l, is)) as (λ _. ⊥) [
        | inl old ↦ (
            let s = (can.lines other).0 old in
            let same = can.apart other (get_or new i d) p (inr s) (inl here) whole on there in
            can.strange other s (subst (Contains new) (sym same) here))
        | inr x ↦ (
            let same = can.apart other (get_or new i d) p (inl (of_take new i other (omega arith) x)) (inl here) whole on there in
            not_before new i d can.new_ordered inside (subst (Contains (take i new)) same x))
      ]
