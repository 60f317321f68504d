-- A line gets its crossings, one by one.
use Rattle.std.proofs.Common.{◌≡◌, ◌⊎◌, inl, inr, ℕ, zero, suc, ◌+◌, ◌-◌, ◌^◌, ◌<◌, ◌≤◌, min, Bool, true, false, cond, List, [], ◌∷◌, ◌++◌, length, get_or, take, None, Some, refl, sym, ap, subst, ◌∙◌, arith, append-nil}
use Rattle.std.specs.Prelude.{Contains, count_by, filter}
use Rattle.std.specs.FinMap.{get, insert, len}
use Rattle.std.proofs.lemmas.List.{length-append, length-take, get_or-take, get_or_default}
use Rattle.std.proofs.lemmas.List.Sums.{length-filter, sum_by_more_le}
use Rattle.std.proofs.lemmas.List.Elements.{Contains-append_left, Contains-append_right, Contains-append_cases, filter_more}
use Rattle.plane_geom.specs.declared.point.Way.{Way}
use Rattle.plane_geom.specs.declared.point.Way.TheVariants.{Vertical, Horizontal}
use Rattle.plane_geom.specs.declared.floor.Line.{Line}
use Rattle.line_arena.specs.Arena.{Arena, IsArena, Pair}
use Rattle.line_arena.proofs.Arenas.ArenaLaws.{within_crossing_put}
use Rattle.plane_geom.specs.Order.{AreOrdered, stands_before}
use Rattle.sweep_lines.proofs.Members.{Among, among_filter, among_filtered, among_of_contains, contains_of_among}
use Rattle.plane_geom.proofs.Order.{never_both}
use Rattle.line_arena.specs.Count.{counted_by}
use Rattle.line_arena.proofs.Counting.{counted_on}
use Rattle.visibility_graph.specs.Fill.{IsCrossed, IsUncrossed, IsWithOneOf, pair_along}
use Rattle.visibility_graph.proofs.Lines.{in_put, one_id, one_more, put_there, same_some}

pub crossed_none : (a : Arena) (id : ℕ) (way : Way) → a.written < 2 ^ 64 → IsCrossed a a id way []
crossed_none a id way counts = record {
  lines = refl;
  stay = λ c p is. is;
  come = λ l o among is. absurd (omega (arith, among.1));
  only = λ c p is. inl is;
  entries = omega arith;
  spare_lines = refl;
  spare_crossings = omega arith;
  written = omega arith;
}

with_more : (a b : Arena) (id : ℕ) (way : Way) (xs ys : List Line) (p : Pair) → a.lines ≡ b.lines → ((l : Line) → Contains xs l → Contains ys l) → IsWithOneOf b id way xs p → IsWithOneOf a id way ys p
with_more a b id way xs ys p same more w = record {
  other = w.other;
  listed = more w.other w.listed;
  other_id = w.other_id;
  is = ap (λ m. get m w.other_id) same ∙ w.is;
  pair_is = w.pair_is;
}

pub crossed_on : (a b c : Arena) (id : ℕ) (way : Way) (xs ys : List Line) → IsCrossed a b id way xs → IsCrossed b c id way ys → IsCrossed a c id way (xs ++ ys)
crossed_on a b c id way xs ys f g =
    let long = length-append xs ys in
    record {
      lines = g.lines ∙ f.lines;
      stay = λ k p is. g.stay k p (f.stay k p is);
      come = λ l o among is. elim (Contains-append_cases xs ys l among) as (λ _. (k : ℕ) × (get c.crossings k ≡ Some (pair_along way id o))) [
        | inl h ↦ (let r = f.come l o h is in (r.0, g.stay r.0 _ r.1))
        | inr h ↦ g.come l o h (ap (λ m. get m o) f.lines ∙ is)
      ];
      only = λ k p is. elim (g.only k p is) as (λ _. (get a.crossings k ≡ Some p) ⊎ IsWithOneOf a id way (xs ++ ys) p) [
        | inl h ↦ elim (f.only k p h) as (λ _. (get a.crossings k ≡ Some p) ⊎ IsWithOneOf a id way (xs ++ ys) p) [
          | inl old ↦ inl old
          | inr w ↦ inr (with_more a a id way xs (xs ++ ys) p refl (λ l among. Contains-append_left xs ys l among) w)
        ]
        | inr w ↦ inr (with_more a b id way ys (xs ++ ys) p (sym f.lines) (λ l among. Contains-append_right xs ys l among) w)
      ];
      entries = omega (arith, f.entries, g.entries, long);
      spare_lines = g.spare_lines ∙ f.spare_lines;
      spare_crossings = omega (arith, f.spare_crossings, g.spare_crossings, long);
      written = g.written ∙ ap (counted_by (length ys)) f.written ∙ counted_on (length xs) (length ys) a.written ∙ ap (λ n. counted_by n a.written) (sym long);
    }

pub only_one : {X : Type 0} (x y : X) → Contains (x ∷ []) y → x ≡ y
only_one x y h = by h.0 h.1 h.2
  where
    by : (k : ℕ) → k < length (x ∷ []) → get_or (x ∷ []) k y ≡ y → x ≡ y
    by zero l e = e
    by (suc k) l e = absurd (omega arith)

pub the_one : {X : Type 0} (x : X) → Contains (x ∷ []) x
the_one x = (0, omega arith, refl)

-- the crossing with one line is added
pub crossed_one : (a b : Arena) (id other_id c : ℕ) (way : Way) (pair : Pair) (other : Line) → pair ≡ pair_along way id other_id → IsArena a → get a.lines other_id ≡ Some other → get a.crossings c ≡ None → 0 < a.spare_crossings →
    b ≡ record a { crossings = insert a.crossings c pair; spare_crossings = a.spare_crossings - 1; written = counted_by 1 a.written } → IsCrossed a b id way (other ∷ [])
crossed_one a b id other_id c way pair other this arena is free room after =
    let crossings : b.crossings ≡ insert a.crossings c pair = ap (λ (x : Arena). x.crossings) after in
    let spare : b.spare_crossings ≡ a.spare_crossings - 1 = ap (λ (x : Arena). x.spare_crossings) after in
    record {
      lines = ap (λ (x : Arena). x.lines) after;
      stay = (within_crossing_put a b c pair free (ap (λ (x : Arena). x.lines) after) crossings).crossings;
      come = λ l o among there.
          let same : o ≡ other_id = one_id a o other_id other arena (there ∙ ap Some (sym (only_one other l among))) is in
          (c, ap (λ m. get m c) crossings ∙ put_there a.crossings c pair ∙ ap Some (this ∙ ap (pair_along way id) (sym same)));
      only = λ k p there. elim (in_put a.crossings c k pair p (ap (λ m. get m k) (sym crossings) ∙ there)) as (λ _. (get a.crossings k ≡ Some p) ⊎ IsWithOneOf a id way (other ∷ []) p) [
        | inl h ↦ inr (record { other = other; listed = the_one other; other_id = other_id; is = is; pair_is = h.1 ∙ this })
        | inr h ↦ inl h
      ];
      entries = ap len crossings ∙ one_more a.crossings c pair free;
      spare_lines = ap (λ (x : Arena). x.spare_lines) after;
      spare_crossings = omega arith;
      written = ap (λ (x : Arena). x.written) after;
    }

-- ---- one of the others after another

pub in_others : (test : Line → Bool) (bs others : List Line) (x : Line) → filter test bs ≡ filter test others → Contains bs x → test x ≡ true → Contains others x
in_others test bs others x same c e =
    contains_of_among others x (among_filtered test others x (subst (Among x) same (among_filter test bs x (among_of_contains bs x c) e))).0

-- an element of lines in order does not stand among those before it
pub not_before : (ls : List Line) (i : ℕ) (d : Line) → AreOrdered ls → i < length ls → Contains (take i ls) (get_or ls i d) → ⊥
not_before ls i d ordered l c =
    let x = get_or ls i d in
    let short = length-take i ls in
    let low : c.0 < i = omega (arith, c.1, short) in
    let here : get_or ls c.0 x ≡ x = sym (get_or-take i ls c.0 x low) ∙ c.2 in
    let there : get_or ls i x ≡ x = get_or_default ls i x d l in
    let r : stands_before x x ≡ true = subst (λ y. stands_before y x ≡ true) here (subst (λ y. stands_before (get_or ls c.0 x) y ≡ true) there (ordered c.0 i x low l)) in
    never_both x x r r

pair_same : (way : Way) (id o u : ℕ) → pair_along way id o ≡ pair_along way id u → o ≡ u
pair_same Vertical id o u e = ap (λ (p : Pair). p.horizontal) e
pair_same Horizontal id o u e = ap (λ (p : Pair). p.vertical) e

-- a line that stands neither among the others so far nor in a crossing before is not crossed yet
pub still_uncrossed : (a b : Arena) (id : ℕ) (way : Way) (others : List Line) (other : Line) → IsCrossed a b id way others → IsUncrossed a id way other → (Contains others other → ⊥) → IsUncrossed b id way other
still_uncrossed a b id way others other f none apart = λ o c is there.
    let was : get a.lines o ≡ Some other = ap (λ m. get m o) (sym f.lines) ∙ is in
    elim (f.only c (pair_along way id o) there) as (λ _. ⊥) [
      | inl old ↦ none o c was old
      | inr w ↦ (
          let same : o ≡ w.other_id = pair_same way id o w.other_id w.pair_is in
          let lines : w.other ≡ other = same_some w.other other (sym w.is ∙ ap (get a.lines) (sym same) ∙ was) in
          apart (subst (Contains others) lines w.listed))
    ]

pub room_for_one : (test : Line → Bool) (bs others : List Line) (i : ℕ) (d : Line) (spare now : ℕ) → filter test bs ≡ filter test others → i < length bs → test (get_or bs i d) ≡ true → count_by test others ≤ spare
    → now + length (filter test (take i bs)) ≡ spare → 0 < now
room_for_one test bs others i d spare now same l e room is =
    let all : length (filter test others) ≡ count_by test others = length-filter test others in
    let near : length (filter test bs) ≡ count_by test bs = length-filter test bs in
    let short : length (filter test bs) ≡ length (filter test others) = ap length same in
    let front : length (filter test (take i bs)) ≡ count_by test (take i bs) = length-filter test (take i bs) in
    let more : count_by test (take i bs) + 1 ≤ count_by test bs = subst (λ (b : Bool). count_by test (take i bs) + cond b 1 0 ≤ count_by test bs) e (sum_by_more_le (λ x. cond (test x) 1 0) bs i d l) in
    omega arith

-- the lines that are met grow by one that is met
pub met_one : (test : Line → Bool) (bs : List Line) (i : ℕ) (d : Line) → i < length bs → test (get_or bs i d) ≡ true → filter test (take (i + 1) bs) ≡ filter test (take i bs) ++ get_or bs i d ∷ []
met_one test bs i d l e = filter_more test bs i d l ∙ ap (λ b. filter test (take i bs) ++ cond b (get_or bs i d ∷ []) []) e

pub met_none : (test : Line → Bool) (bs : List Line) (i : ℕ) (d : Line) → i < length bs → test (get_or bs i d) ≡ false → filter test (take (i + 1) bs) ≡ filter test (take i bs)
met_none test bs i d l e = filter_more test bs i d l ∙ ap (λ b. filter test (take i bs) ++ cond b (get_or bs i d ∷ []) []) e ∙ append-nil (filter test (take i bs))
