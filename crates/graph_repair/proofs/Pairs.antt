-- How many lines and crossings a complete arena of given lines has.
use Rattle.std.proofs.Common.{◌≡◌, ◌≢◌, ◌⊎◌, inl, inr, ℕ, ◌+◌, Bool, true, cond, List, [], ◌∷◌, ◌++◌, length, map, Some, refl, sym, ap, subst, ◌∙◌, arith}
use Rattle.std.specs.Prelude.{count_by, filter, sum_by}
use Rattle.std.specs.FinMap.{get, len}
use Rattle.std.proofs.lemmas.List.{length-append, length-map}
use Rattle.std.proofs.lemmas.List.Sums.{length-filter, sum_by-cons}
use Rattle.plane_geom.specs.declared.point.Way.{Way}
use Rattle.plane_geom.specs.declared.point.Way.TheVariants.{Vertical, Horizontal}
use Rattle.plane_geom.specs.declared.floor.Line.{Line}
use Rattle.line_arena.specs.Arena.{Arena, IsArena, Pair}
use Rattle.line_arena.specs.Stands.{IsComplete}
use Rattle.line_arena.proofs.Arenas.ArenaLaws.{across_where_meet, meet_where_across}
use Rattle.sweep_lines.proofs.Members.{Among, Rising, all_among, among_all, among_filter, among_filtered, among_map, among_mapped, among_of_contains, contains_of_among, rising_filter, rising_joined, rising_map}
use Rattle.visibility_graph.specs.Meeting.{coming, meets, pairs_by}
use Rattle.visibility_graph.specs.Fill.{AreLines}
use Rattle.visibility_graph.proofs.Counts.{count_append, count_cons, meets_back}
use Rattle.visibility_graph.proofs.Lines.{across_of_meets, meets_of_across, one_id, other_runs, same_some}
use Rattle.graph_repair.proofs.Counted.{AreDistinct, counted}

-- ---- lists

among_joined : {X : Type 0} (xs ys : List X) (x : X) → Among x (xs ++ ys) → Among x xs ⊎ Among x ys
among_joined [] ys x h = inr h
among_joined (z ∷ zs) ys x (inl e) = inl (inl e)
among_joined (z ∷ zs) ys x (inr h) = elim (among_joined zs ys x h) as (λ _. Among x (z ∷ zs) ⊎ Among x ys) [ inl a ↦ inl (inr a) | inr b ↦ inr b ]

among_left : {X : Type 0} (xs ys : List X) (x : X) → Among x xs → Among x (xs ++ ys)
among_left [] ys x h = absurd h
among_left (z ∷ zs) ys x (inl e) = inl e
among_left (z ∷ zs) ys x (inr h) = inr (among_left zs ys x h)

among_right : {X : Type 0} (xs ys : List X) (x : X) → Among x ys → Among x (xs ++ ys)
among_right [] ys x h = h
among_right (z ∷ zs) ys x h = inr (among_right zs ys x h)

-- ---- pairs of lines that meet, the vertical one first

abbrev pub oriented_by : Way → Line → Line → Line × Line
oriented_by Vertical l m = (l, m)
oriented_by Horizontal l m = (m, l)

abbrev pub pairs_of : List Line → List (Line × Line)
pairs_of [] = []
pairs_of (l ∷ ls) = map (oriented_by l.way l) (filter (meets l) ls) ++ pairs_of ls

pub pairs_length : (ls : List Line) → length (pairs_of ls) ≡ pairs_by meets ls
pairs_length [] = refl
pairs_length (l ∷ ls) =
    length-append (map (oriented_by l.way l) (filter (meets l) ls)) (pairs_of ls)
    ∙ ap (λ n. n + length (pairs_of ls)) (length-map (filter (meets l) ls) (oriented_by l.way l) ∙ length-filter (meets l) ls)
    ∙ ap (λ n. count_by (meets l) ls + n) (pairs_length ls)

-- two lines of the list that meet, the first of them vertical
record AreMet (ls : List Line) (q : Line × Line) : Type 0 where
  first : Among q.0 ls
  second : Among q.1 ls
  runs : q.0.way ≡ Vertical
  met : meets q.0 q.1 ≡ true

met_head : (w : Way) (l m : Line) (ls : List Line) → l.way ≡ w → Among m ls → meets l m ≡ true → AreMet (l ∷ ls) (oriented_by w l m)
met_head Vertical l m ls runs among e = record { first = inl refl; second = inr among; runs = runs; met = e }
met_head Horizontal l m ls runs among e = record { first = inr among; second = inl refl; runs = other_runs l m runs e; met = meets_back m l ∙ e }

met_of_pairs : (ls : List Line) (q : Line × Line) → Among q (pairs_of ls) → AreMet ls q
met_of_pairs [] q h = absurd h
met_of_pairs (l ∷ ls) q h = elim (among_joined (map (oriented_by l.way l) (filter (meets l) ls)) (pairs_of ls) q h) as (λ _. AreMet (l ∷ ls) q) [
  | inl a ↦ (
      let r = among_mapped (oriented_by l.way l) (filter (meets l) ls) q a in
      let f = among_filtered (meets l) ls r.0 r.1 in
      subst (AreMet (l ∷ ls)) (sym r.2) (met_head l.way l r.0 ls refl f.0 f.1))
  | inr b ↦ (let r = met_of_pairs ls q b in record { first = inr r.first; second = inr r.second; runs = r.runs; met = r.met })
]

oriented_down : (w : Way) (l m : Line) → w ≡ Vertical → oriented_by w l m ≡ (l, m)
oriented_down Vertical l m e = refl
oriented_down Horizontal l m e = absurd (cc)

oriented_across : (w : Way) (l m : Line) → w ≡ Horizontal → oriented_by w l m ≡ (m, l)
oriented_across Vertical l m e = absurd (cc)
oriented_across Horizontal l m e = refl

head_pair : (l m : Line) (ls : List Line) → Among m ls → meets l m ≡ true → Among (oriented_by l.way l m) (pairs_of (l ∷ ls))
head_pair l m ls among e =
    among_left (map (oriented_by l.way l) (filter (meets l) ls)) (pairs_of ls) (oriented_by l.way l m) (among_map (oriented_by l.way l) (filter (meets l) ls) m (among_filter (meets l) ls m among e))

pair_of_met : (ls : List Line) (v h : Line) → Among v ls → Among h ls → v.way ≡ Vertical → h.way ≡ Horizontal → meets v h ≡ true → Among (v, h) (pairs_of ls)
pair_of_met [] v h a b down across e = absurd a
pair_of_met (l ∷ ls) v h (inl a) (inl b) down across e = absurd (let both : Vertical ≡ Horizontal = sym down ∙ ap (λ (x : Line). x.way) (a ∙ sym b) ∙ across in cc)
pair_of_met (l ∷ ls) v h (inl a) (inr b) down across e =
    subst (λ (x : Line). Among (x, h) (pairs_of (l ∷ ls))) (sym a)
    (subst (λ q. Among q (pairs_of (l ∷ ls))) (oriented_down l.way l h (ap (λ (x : Line). x.way) (sym a) ∙ down))
    (head_pair l h ls b (subst (λ (x : Line). meets x h ≡ true) a e)))
pair_of_met (l ∷ ls) v h (inr a) (inl b) down across e =
    subst (λ (x : Line). Among (v, x) (pairs_of (l ∷ ls))) (sym b)
    (subst (λ q. Among q (pairs_of (l ∷ ls))) (oriented_across l.way l v (ap (λ (x : Line). x.way) (sym b) ∙ across))
    (head_pair l v ls a (meets_back l v ∙ subst (λ (x : Line). meets v x ≡ true) b e)))
pair_of_met (l ∷ ls) v h (inr a) (inr b) down across e =
    among_right (map (oriented_by l.way l) (filter (meets l) ls)) (pairs_of ls) (v, h) (pair_of_met ls v h a b down across e)

-- ---- no pair stands twice

oriented_apart : (w : Way) (l m n : Line) → m ≢ n → oriented_by w l m ≢ oriented_by w l n
oriented_apart Vertical l m n ne e = ne (ap (λ (q : Line × Line). q.1) e)
oriented_apart Horizontal l m n ne e = ne (ap (λ (q : Line × Line). q.0) e)

oriented_has : (w : Way) (l m : Line) (ls : List Line) → Among (oriented_by w l m).0 ls → Among (oriented_by w l m).1 ls → Among l ls
oriented_has Vertical l m ls a b = a
oriented_has Horizontal l m ls a b = b

pub rising_more : {X : Type 0} (R S : X → X → Type 0) → ((x y : X) → R x y → S x y) → (xs : List X) → Rising R xs → Rising S xs
rising_more R S f [] h = tt
rising_more R S f (x ∷ xs) h = (among_all (S x) xs (λ y a. f x y (all_among (R x) xs h.0 y a)), rising_more R S f xs h.1)

pub pairs_distinct : (ls : List Line) → AreDistinct ls → AreDistinct (pairs_of ls)
pairs_distinct [] d = tt
pairs_distinct (l ∷ ls) d =
    rising_joined (λ q r. q ≢ r) (map (oriented_by l.way l) (filter (meets l) ls)) (pairs_of ls)
    (rising_map (λ q r. q ≢ r) (oriented_by l.way l) (filter (meets l) ls)
    (rising_more (λ x y. x ≢ y) (λ x y. oriented_by l.way l x ≢ oriented_by l.way l y) (λ x y ne. oriented_apart l.way l x y ne) (filter (meets l) ls)
    (rising_filter (λ x y. x ≢ y) (meets l) ls d.1)))
    (pairs_distinct ls d.1)
    (λ q r a b e.
    let m = among_mapped (oriented_by l.way l) (filter (meets l) ls) q a in
    let met = met_of_pairs ls r b in
    let same : oriented_by l.way l m.0 ≡ r = sym m.2 ∙ e in
    let here = oriented_has l.way l m.0 ls (subst (λ (s : Line × Line). Among s.0 ls) (sym same) met.first) (subst (λ (s : Line × Line). Among s.1 ls) (sym same) met.second) in
    all_among (λ y. l ≢ y) ls d.0 l here refl)

-- ---- counts

-- the pair of ids is that of the two lines
record IsOf (a : Arena) (p : Pair) (q : Line × Line) : Type 0 where
  down : get a.lines p.vertical ≡ Some q.0
  across : get a.lines p.horizontal ≡ Some q.1

module _ (a : Arena) (ls : List Line) (arena : IsArena a) (lines : AreLines a ls) (distinct : AreDistinct ls) where
  pub line_count : len a.lines ≡ length ls
  line_count = counted (λ x y. x ≡ y) a.lines ls distinct (record {
    listed = λ i x g. (x, among_of_contains ls x ((lines x).0 (i, g)), refl);
    there = λ y h. let l = (lines y).1 (contains_of_among ls y h) in (l.0, y, l.1, refl);
    one_element = λ x y z e f. sym e ∙ f;
    one_entry = λ i j x w y g f e h. one_id a i j y arena (g ∙ ap Some e) (f ∙ ap Some h);
  })

  pub crossing_count : IsComplete a → len a.crossings ≡ pairs_by meets ls
  crossing_count complete = counted (IsOf a) a.crossings (pairs_of ls) (pairs_distinct ls distinct) (record {
    listed = λ c p g.
        let m = arena.meet c p g in
        let e = meets_of_across m.down m.across (across_where_meet a p.vertical p.horizontal m.down m.across m.is_down m.is_across m) in (
          (m.down, m.across),
          pair_of_met ls m.down m.across (among_of_contains ls m.down ((lines m.down).0 (p.vertical, m.is_down))) (among_of_contains ls m.across ((lines m.across).0 (p.horizontal, m.is_across))) m.down_runs m.across_runs e,
          record { down = m.is_down; across = m.is_across },
        );
    there = λ q h.
        let met = met_of_pairs ls q h in
        let v = (lines q.0).1 (contains_of_among ls q.0 met.first) in
        let u = (lines q.1).1 (contains_of_among ls q.1 met.second) in
        let c = complete v.0 u.0 (meet_where_across a v.0 u.0 q.0 q.1 v.1 u.1 (across_of_meets q.0 q.1 met.runs met.met)) in
        (c.0, record { vertical = v.0; horizontal = u.0 }, c.1, record { down = v.1; across = u.1 });
    one_element = λ p q r f g.
        let first : q.0 ≡ r.0 = same_some q.0 r.0 (sym f.down ∙ g.down) in
        let second : q.1 ≡ r.1 = same_some q.1 r.1 (sym f.across ∙ g.across) in
        λ i. (first i, second i);
    one_entry = λ i j x w q g f e h.
        let down : x.vertical ≡ w.vertical = one_id a x.vertical w.vertical q.0 arena e.down h.down in
        let across : x.horizontal ≡ w.horizontal = one_id a x.horizontal w.horizontal q.1 arena e.across h.across in
        let same : x ≡ w = λ k. record { vertical = down k; horizontal = across k } in
        arena.once i j x g (f ∙ ap Some (sym same));
  }) ∙ pairs_length ls

-- ---- pairs of two lists

none_between : (ys : List Line) → sum_by (λ l. count_by (meets l) []) ys ≡ 0
none_between [] = refl
none_between (y ∷ ys) =
    let e = sum_by-cons (λ l. count_by (meets l) []) y ys in
    let f = none_between ys in
    omega arith

between_one : (x : Line) (xs ys : List Line) → sum_by (λ l. count_by (meets l) (x ∷ xs)) ys ≡ count_by (meets x) ys + sum_by (λ l. count_by (meets l) xs) ys
between_one x xs [] = refl
between_one x xs (y ∷ ys) =
    let e = sum_by-cons (λ l. count_by (meets l) (x ∷ xs)) y ys in
    let f = sum_by-cons (λ l. count_by (meets l) xs) y ys in
    let g = between_one x xs ys in
    let h = count_cons (meets y) x xs in
    let k = count_cons (meets x) y ys in
    let one : ◌≡◌ {A = ℕ} (cond (meets y x) 1 0) (cond (meets x y) 1 0) = ap (λ (b : Bool). cond {A = ℕ} b 1 0) (meets_back y x) in
    omega arith

-- the pairs of a list with further lines after it
pub pairs_joined : (xs ys : List Line) → pairs_by meets (xs ++ ys) ≡ pairs_by meets xs + coming ys xs
pairs_joined [] ys = let e = none_between ys in omega arith
pairs_joined (x ∷ xs) ys =
    let e = pairs_joined xs ys in
    let f = count_append (meets x) xs ys in
    let g = between_one x xs ys in
    omega arith
