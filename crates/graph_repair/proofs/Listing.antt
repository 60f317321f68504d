-- Whether a line stands in a list, lists that part the kept lines of two floors, and the list of an arena.
use Rattle.std.proofs.Common.{◌≡◌, ◌≢◌, ◌⊎◌, inl, inr, ℕ, ℤ, Bool, true, false, not, ◌&&◌, ◌||◌, List, ◌++◌, refl, sym, ap, subst, ◌∙◌}
use Rattle.std.specs.Prelude.{Contains, filter, Some, ◌↔◌}
use Rattle.std.specs.FinMap.{get}
use Rattle.std.specs.Ordering.{int_eq}
use Rattle.std.proofs.lemmas.Bool.{cases_Bool}
use Rattle.std.proofs.lemmas.Bool.Decides.{Decides-int_eq}
use Rattle.std.proofs.lemmas.List.Elements.{All-contains, All-from_recursion}
use Rattle.std.proofs.lemmas.List.Folds.{Any-from_list_any, list_any-from_Any}
use Rattle.std.proofs.lemmas.List.Kept.{AllPairs-filter}
use Rattle.plane_geom.specs.declared.point.Way.{Way}
use Rattle.plane_geom.specs.declared.point.Way.TheVariants.{Vertical, Horizontal}
use Rattle.plane_geom.specs.declared.rect.Rect.{Rect}
use Rattle.plane_geom.specs.declared.floor.Line.{Line}
use Rattle.plane_geom.specs.declared.floor.Floor.{Floor}
use Rattle.plane_geom.specs.Floor.{IsKept}
use Rattle.line_arena.specs.Arena.{Arena}
use Rattle.line_arena.specs.Order.{AreOrderedWithIds}
use Rattle.line_arena.specs.Stands.{StandsFor}
use Rattle.sweep_lines.specs.Kept.{AreAllKept, AreKept, is_near}
use Rattle.plane_geom.specs.Order.{AreOrdered, stands_before}
use Rattle.sweep_lines.proofs.Members.{Among, among_all, among_filter, among_filtered, among_map, among_mapped, among_of_any, among_of_contains, any_of_among, contains_of_among, pairs_of_rising, rising_joined, rising_map, rising_of_pairs}
use Rattle.plane_geom.proofs.Order.{before_apart}
use Rattle.visibility_graph.specs.Meeting.{same_way}
use Rattle.visibility_graph.proofs.KeptList.{is_kept}
use Rattle.graph_repair.specs.Listed.{goes, is_listed, lines_of, same_line, stays}
use Rattle.graph_repair.specs.Change.{AreAlone, AreShared}
use Rattle.graph_repair.specs.Hull.{IsAloneWithin}
use Rattle.graph_repair.proofs.Counted.{AreDistinct}
use Rattle.graph_repair.proofs.Pairs.{rising_more}
use Rattle.graph_repair.proofs.Unchanged.{kept_far}

-- ---- equal lines

same_ways : (v w : Way) → same_way v w ≡ true → v ≡ w
same_ways Vertical Vertical e = refl
same_ways Vertical Horizontal e = absurd (cc)
same_ways Horizontal Vertical e = absurd (cc)
same_ways Horizontal Horizontal e = refl

way_itself : (w : Way) → same_way w w ≡ true
way_itself Vertical = refl
way_itself Horizontal = refl

all_four : (a b c d : Bool) → (a && (b && (c && d))) ≡ true → (a ≡ true) × (b ≡ true) × (c ≡ true) × (d ≡ true)
all_four true true true true e = (refl, refl, refl, refl)
all_four true true true false e = absurd (cc)
all_four true true false d e = absurd (cc)
all_four true false c d e = absurd (cc)
all_four false b c d e = absurd (cc)

same_int : (a b : ℤ) → int_eq a b ≡ true → a ≡ b
same_int a b e = (Decides-int_eq a b).0 e

int_itself : (a b : ℤ) → a ≡ b → int_eq a b ≡ true
int_itself a b e = (Decides-int_eq a b).1 e

pub line_of_same : (l m : Line) → same_line l m ≡ true → l ≡ m
line_of_same l m e =
    let r = all_four (same_way l.way m.way) (int_eq l.at m.at) (int_eq l.lo m.lo) (int_eq l.hi m.hi) e in
    let way = same_ways l.way m.way r.0 in
    let at = same_int l.at m.at r.1 in
    let lo = same_int l.lo m.lo r.2 in
    let hi = same_int l.hi m.hi r.3 in
    λ i. record { way = way i; at = at i; lo = lo i; hi = hi i }

all_true : (a b c d : Bool) → a ≡ true → b ≡ true → c ≡ true → d ≡ true → (a && (b && (c && d))) ≡ true
all_true true true true true e f g h = refl
all_true true true true false e f g h = h
all_true true true false d e f g h = absurd (cc)
all_true true false c d e f g h = absurd (cc)
all_true false b c d e f g h = absurd (cc)

pub same_itself : (l : Line) → same_line l l ≡ true
same_itself l = all_true (same_way l.way l.way) (int_eq l.at l.at) (int_eq l.lo l.lo) (int_eq l.hi l.hi) (way_itself l.way) (int_itself l.at l.at refl) (int_itself l.lo l.lo refl) (int_itself l.hi l.hi refl)

-- ---- lines that are listed

pub not_true : (b : Bool) → (b ≡ true → ⊥) → b ≡ false
not_true true f = absurd (f refl)
not_true false f = refl

pub among_of_listed : (ls : List Line) (l : Line) → is_listed ls l ≡ true → Among l ls
among_of_listed ls l e =
    let a = Any-from_list_any (same_line l) ls e in
    subst (λ (x : Line). Among x ls) (sym (line_of_same l a.1 a.4)) (among_of_any (λ m. same_line l m ≡ true) ls a)

pub listed_of_among : (ls : List Line) (l : Line) → Among l ls → is_listed ls l ≡ true
listed_of_among ls l h = list_any-from_Any (same_line l) ls (any_of_among (λ m. same_line l m ≡ true) ls l h (same_itself l))

-- a line stands in a list or not
pub is_there : (ls : List Line) (l : Line) → Contains ls l ⊎ (Contains ls l → ⊥)
is_there ls l = elim (cases_Bool (is_listed ls l)) as (λ _. Contains ls l ⊎ (Contains ls l → ⊥)) [
  | inl stands ↦ inl (contains_of_among ls l (among_of_listed ls l stands))
  | inr none ↦ inr (λ c. let stands = listed_of_among ls l (among_of_contains ls l c) in let both : true ≡ false = sym stands ∙ none in absurd (cc))
]

-- ---- the kept lines of two floors

pub ordered_filter : (p : Line → Bool) (ls : List Line) → AreOrdered ls → AreOrdered (filter p ls)
ordered_filter p ls ordered = AllPairs-filter (λ l m. stands_before l m ≡ true) p ls ordered

-- the new lines near the differences decide which old lines stay
module _ (near : Rect) (a b : Floor) (gone : IsAloneWithin near a b) (come : IsAloneWithin near b a) (ls ms : List Line) (of_a : AreAllKept a ls) (of_b : AreKept b (λ l. is_near near l ≡ true) ms) where
  abbrev test : Line → Bool
  test = stays near ms

  listed_kept : (l : Line) → is_listed ms l ≡ true → IsKept b l
  listed_kept l e = (All-contains (λ l. IsKept b l × (is_near near l ≡ true)) ms l of_b.kept (contains_of_among ms l (among_of_listed ms l e))).0

  kept_listed : (l : Line) → IsKept b l → is_near near l ≡ true → is_listed ms l ≡ true
  kept_listed l k e = listed_of_among ms l (among_of_contains ms l (of_b.all l k e))

  test_near : (l : Line) → is_near near l ≡ true → test l ≡ is_listed ms l
  test_near l e = ap (λ c. not c || is_listed ms l) e

  test_far : (l : Line) → is_near near l ≡ false → test l ≡ true
  test_far l e = ap (λ c. not c || is_listed ms l) e

  -- a line of the one floor stays if it is also one of the other
  other_of_stays : (l : Line) → IsKept a l → test l ≡ true → IsKept b l
  other_of_stays l k e = elim (cases_Bool (is_near near l)) as (λ _. IsKept b l) [
    | inl close ↦ listed_kept l (sym (test_near l close) ∙ e)
    | inr far ↦ kept_far near a b gone come l far k
  ]

  stays_of_other : (l : Line) → IsKept b l → test l ≡ true
  stays_of_other l k = elim (cases_Bool (is_near near l)) as (λ _. test l ≡ true) [
    | inl close ↦ test_near l close ∙ kept_listed l k close
    | inr far ↦ test_far l far
  ]

  not_other_of_goes : (l : Line) → not (test l) ≡ true → IsKept b l → ⊥
  not_other_of_goes l e k = let both : false ≡ true = ap not (sym (stays_of_other l k)) ∙ e in cc

  goes_of_not_other : (l : Line) → IsKept a l → (IsKept b l → ⊥) → not (test l) ≡ true
  goes_of_not_other l k none = ap not (not_true (test l) (λ e. none (other_of_stays l k e)))

  pub shared_lines : AreShared a b (filter test ls)
  shared_lines = record {
    listed = λ l. (
      λ c.
          let f = among_filtered test ls l (among_of_contains (filter test ls) l c) in
          let k = is_kept a ls of_a l (contains_of_among ls l f.0) in
          (k, other_of_stays l k f.1),
      λ k. contains_of_among (filter test ls) l (among_filter test ls l (among_of_contains ls l (of_a.all l k.0 tt)) (stays_of_other l k.1)),
    );
    ordered = ordered_filter test ls of_a.ordered;
  }

  pub lines_alone : AreAlone a b (filter (goes near ms) ls)
  lines_alone = record {
    listed = λ l. (
      λ c.
          let f = among_filtered (goes near ms) ls l (among_of_contains (filter (goes near ms) ls) l c) in
          (is_kept a ls of_a l (contains_of_among ls l f.0), not_other_of_goes l f.1),
      λ k. contains_of_among (filter (goes near ms) ls) l (among_filter (goes near ms) ls l (among_of_contains ls l (of_a.all l k.0 tt)) (goes_of_not_other l k.0 k.1)),
    );
    ordered = ordered_filter (goes near ms) ls of_a.ordered;
  }

  -- a new line is near, since otherwise it would be an old one
  near_of_new : (l : Line) → IsKept b l → (IsKept a l → ⊥) → is_near near l ≡ true
  near_of_new l k none = elim (cases_Bool (is_near near l)) as (λ _. is_near near l ≡ true) [
    | inl close ↦ close
    | inr far ↦ absurd (none (kept_far near b a come gone l far k))
  ]

  not_listed : (l : Line) → not (is_listed ls l) ≡ true → IsKept a l → ⊥
  not_listed l e k =
      let stands = listed_of_among ls l (among_of_contains ls l (of_a.all l k tt)) in
      let both : false ≡ true = ap not (sym stands) ∙ e in
      cc

  strange_listed : (l : Line) → (IsKept a l → ⊥) → not (is_listed ls l) ≡ true
  strange_listed l none = ap not (not_true (is_listed ls l) (λ e. none (is_kept a ls of_a l (contains_of_among ls l (among_of_listed ls l e)))))

  pub new_lines : AreAlone b a (filter (λ l. not (is_listed ls l)) ms)
  new_lines = record {
    listed = λ l. (
      λ c.
          let f = among_filtered (λ l. not (is_listed ls l)) ms l (among_of_contains (filter (λ l. not (is_listed ls l)) ms) l c) in
          (listed_kept l (listed_of_among ms l f.0), not_listed l f.1),
      λ k.
          contains_of_among (filter (λ l. not (is_listed ls l)) ms) l
          (among_filter (λ l. not (is_listed ls l)) ms l (among_of_contains ms l (of_b.all l k.0 (near_of_new l k.0 k.1))) (strange_listed l k.1)),
    );
    ordered = ordered_filter (λ l. not (is_listed ls l)) ms of_b.ordered;
  }

-- ---- the two parts of the kept lines of a floor

distinct_ordered : (ls : List Line) → AreOrdered ls → AreDistinct ls
distinct_ordered ls ordered = rising_more (λ l m. stands_before l m ≡ true) (λ l m. l ≢ m) before_apart ls (rising_of_pairs (λ l m. stands_before l m ≡ true) ls ordered)

module _ (a b : Floor) (stay here : List Line) (shared : AreShared a b stay) (alone : AreAlone a b here) where
  pub in_a_part : (l : Line) → IsKept a l → Contains stay l ⊎ Contains here l
  in_a_part l k = elim (is_there stay l) as (λ _. Contains stay l ⊎ Contains here l) [
    | inl s ↦ inl s
    | inr none ↦ inr ((alone.listed l).1 (k, λ other. none ((shared.listed l).1 (k, other))))
  ]

  pub in_one_part : (l : Line) → Contains stay l → Contains here l → ⊥
  in_one_part l s h = ((alone.listed l).0 h).1 ((shared.listed l).0 s).1

  pub of_a_part : (l : Line) → Contains stay l ⊎ Contains here l → IsKept a l
  of_a_part l c = elim c as (λ _. IsKept a l) [ inl s ↦ ((shared.listed l).0 s).0 | inr h ↦ ((alone.listed l).0 h).0 ]

  pub distinct_parts : AreDistinct (stay ++ here)
  distinct_parts =
      rising_joined (λ l m. l ≢ m) stay here (distinct_ordered stay shared.ordered) (distinct_ordered here alone.ordered)
      (λ l m s h e. in_one_part m (subst (λ (x : Line). Contains stay x) e (contains_of_among stay l s)) (contains_of_among here m h))

pub distinct_shared : (a b : Floor) (stay : List Line) → AreShared a b stay → AreDistinct stay
distinct_shared a b stay shared = distinct_ordered stay shared.ordered

-- ---- the lines of an arena, in order

pub ordered_lines : (pairs : List (Line × ℕ)) → AreOrderedWithIds pairs → AreOrdered (lines_of pairs)
ordered_lines pairs ordered =
    pairs_of_rising (λ l m. stands_before l m ≡ true) (lines_of pairs)
    (rising_map (λ l m. stands_before l m ≡ true) (λ e. e.0) pairs (rising_of_pairs (λ d e. stands_before d.0 e.0 ≡ true) pairs ordered))

-- they are the kept lines of the floor for which it stands
pub kept_of_arena : (floor : Floor) (arena : Arena) (pairs : List (Line × ℕ)) → StandsFor floor arena → AreOrderedWithIds pairs → ((line : Line) (id : ℕ) → Contains pairs (line, id) ↔ (get arena.lines id ≡ Some line)) → AreAllKept floor (lines_of pairs)
kept_of_arena floor arena pairs stands ordered listed = record {
  kept = All-from_recursion (λ l. IsKept floor l × Unit {0}) (lines_of pairs) (among_all (λ l. IsKept floor l × Unit {0}) (lines_of pairs) (λ l a.
      let e = among_mapped (λ (e : Line × ℕ). e.0) pairs l a in
      let is = (listed e.0.0 e.0.1).0 (contains_of_among pairs e.0 e.1) in
      ((stands.lines l).0 (e.0.1, is ∙ ap Some (sym e.2)), tt)));
  all = λ l k _.
      let has = (stands.lines l).1 k in
      contains_of_among (lines_of pairs) l (among_map (λ (e : Line × ℕ). e.0) pairs (l, has.0) (among_of_contains pairs (l, has.0) ((listed l has.0).1 has.1)));
  ordered = ordered_lines pairs ordered;
}
