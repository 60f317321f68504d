-- What the sweep has done, from one coordinate to the next.
use Rattle.std.proofs.Common.{◌≡◌, ◌⊎◌, inl, inr, ℕ, zero, suc, ◌+◌, ◌<◌, ◌≤◌, ℤ, pos, ◌+ℤ◌, ◌-ℤ◌, ◌≤ℤ◌, ◌<ℤ◌, Bool, true, false, not, cond, Some, None, List, [], ◌∷◌, ◌++◌, length, get_or, take, drop, refl, sym, ap, subst, ◌∙◌, arith, All, Contains, IsPermutation}
use Rattle.std.specs.Prelude.{Any, AllPairs, filter, slice_get, count_by, int_lt, ◌||◌, ◌&&◌}
use Rattle.std.specs.Ordering.{int_eq}
use Rattle.std.specs.List.{AllWithin, list_any}
use Rattle.std.proofs.lemmas.Int.{ints, by_lt_z}
use Rattle.std.proofs.lemmas.Bool.{cases_lt}
use Rattle.std.proofs.lemmas.List.{take-append-drop, get_or-take, get_or-drop, get_or_default, length-drop, length-take-le}
use Rattle.std.proofs.lemmas.List.Elements.{All-append, All-weaker, All-contains, Contains-get_or, Contains-append_cases, Contains-append_left, Contains-append_right}
use Rattle.std.proofs.lemmas.List.Filters.{sum_by-filter_both}
use Rattle.std.proofs.lemmas.List.Sums.{sum_by-take-le, sum_by-take-drop}
use Rattle.std.proofs.lemmas.List.Sorted.{Contains-permutation, IsPermutation-sym, sum_by-IsPermutation}
use Rattle.plane_geom.specs.declared.point.Point.{Point}
use Rattle.plane_geom.specs.declared.point.Way.{Way}
use Rattle.plane_geom.specs.declared.point.Way.TheVariants.{Vertical, Horizontal}
use Rattle.plane_geom.specs.declared.rect.Solid.{Solid}
use Rattle.plane_geom.specs.declared.floor.Line.{Line}
use Rattle.plane_geom.specs.declared.floor.Floor.{Floor}
use Rattle.plane_geom.specs.Point.{IsCoordinate, PointIsOnSheet}
use Rattle.plane_geom.specs.Along.{across}
use Rattle.plane_geom.specs.Floor.{IsKept, IsFloor, SideOn, SharesSide, Holds, point_on}
use Rattle.interval_index.specs.declared.span.Span.{Span}
use Rattle.interval_index.specs.Index.{IsListed}
use Rattle.sweep_lines.specs.declared.bar.Bar.{Bar}
use Rattle.sweep_lines.specs.declared.mark.Mark.{Mark}
use Rattle.sweep_lines.specs.Bars.{bar_of, bars_of}
use Rattle.sweep_lines.specs.Marks.{begin_mark, end_mark, anchor_mark, marks_of, begins, ends, begun_span, kept_gaps, AreAt}
use Rattle.sweep_lines.specs.Open.{AreSpansOf, HasBegun, IsCrossed, HasNotEnded, HasLength, AreOpened}
use Rattle.sweep_lines.specs.Kept.{AreKept, RunsWithin, is_within}
use Rattle.plane_geom.specs.Order.{stands_before, way_before}
use Rattle.sweep_lines.proofs.Members.{Among, among_of_contains, contains_of_among, among_filter, among_filtered, among_of_any, among_number, number_map, Rising, rising_of_pairs, rising_joined, pairs_of_rising}
use Rattle.sweep_lines.proofs.Sides.{bar_of_side}
use Rattle.sweep_lines.proofs.Standing.{mark_cases, marks_have_sides, marks_have_anchors, begins_once}
use Rattle.sweep_lines.proofs.Spans.{spans_alike, begun_spans, closed, new_keys, opened}
use Rattle.sweep_lines.proofs.Loops.{got_is, read, read_back}
use Rattle.sweep_lines.proofs.KeptAt.{Reason, held_across}
use Rattle.sweep_lines.proofs.KeptLines.{IsSound, sound_bars, kept_lines, between_holds, between_passes}

-- all marks of the way
abbrev pub all_marks : Floor → Way → List Mark
all_marks floor way = marks_of way (bars_of way floor.solids) floor.anchors

-- each kept line has a mark on its whole line
mark_of_side : (floor : Floor) (way : Way) (l : Line) (s : Solid) → Among s floor.solids → SharesSide l s.rect → l.way ≡ way → (m : Mark) × Contains (all_marks floor way) m × (m.at ≡ l.at)
mark_of_side floor way l s i (lo, hi, side, to, from) w =
    let b = bar_of way s.rect in
    let t = bar_of_side s.rect way l.at lo hi (subst (λ v. SideOn s.rect v l.at lo hi) w side) in
    let n = among_number floor.solids s i in
    let h = marks_have_sides way (bars_of way floor.solids) floor.anchors n.0 b (number_map (λ (q : Solid). bar_of way q.rect) floor.solids n.0 s n.1) in
    elim t.0 [ inl e ↦ (begin_mark n.0 b, h.0, e) | inr e ↦ (end_mark n.0 b, h.1, e) ]

mark_of_reason : (floor : Floor) (way : Way) (l : Line) → Reason floor l → l.way ≡ way → (m : Mark) × Contains (all_marks floor way) m × (m.at ≡ l.at)
mark_of_reason floor way l (inl (o, a)) w = mark_of_side floor way l a.1 (among_of_any (λ s. SharesSide l s.rect) floor.solids a) a.4 w
mark_of_reason floor way l (inr a) w =
    let h = a.4 in
    let e = held_across way l.at h.along a.1 (subst (λ v. a.1 ≡ point_on v l.at h.along) w h.here) in
    (anchor_mark way a.1, marks_have_anchors way (bars_of way floor.solids) floor.anchors a.1 (among_of_any (Holds l) floor.anchors a), e.0)

across_within : (way : Way) (p : Point) → PointIsOnSheet p → IsCoordinate (across way p)
across_within Vertical p o = o.x
across_within Horizontal p o = o.y

mark_within : (floor : Floor) (way : Way) → IsFloor floor → (m : Mark) → Contains (all_marks floor way) m → IsCoordinate m.at
mark_within floor way is m c = elim (mark_cases way (bars_of way floor.solids) floor.anchors m c) [
  | inl (k, b, g, inl e) ↦ subst IsCoordinate (sym (ap (λ (m : Mark). m.at) e)) (sound_bars way floor.solids is.solids k b g).across.from
  | inl (k, b, g, inr e) ↦ subst IsCoordinate (sym (ap (λ (m : Mark). m.at) e)) (sound_bars way floor.solids is.solids k b g).across.to
  | inr (p, i, e) ↦ subst IsCoordinate (sym (ap (λ (m : Mark). m.at) e)) (across_within way p (All-contains PointIsOnSheet floor.anchors p is.anchors (contains_of_among floor.anchors p i)))
]

-- from one coordinate all is done up to another, and the rest of the marks, in order, stand later, up to a last one
pub record Swept (floor : Floor) (way : Way) (from to : ℤ) (rest : List Mark) (index : List Span) (done : List Line) : Type 0 where
  pub upto : ℤ
  pub begun : from ≤ℤ (upto +ℤ pos 1)
  pub rest_each : (m : Mark) → Contains rest m → Contains (all_marks floor way) m × (upto <ℤ m.at) × (m.at ≤ℤ to)
  pub rest_all : (m : Mark) → Contains (all_marks floor way) m → upto <ℤ m.at → m.at ≤ℤ to → Contains rest m
  pub ordered : AllPairs (λ m n. m.at ≤ℤ n.at) rest
  pub once : (k : ℕ) → count_by (λ m. begins k m.kind) rest ≤ 1
  pub open_spans : AreSpansOf (bars_of way floor.solids) (HasNotEnded upto) index
  pub lines : AreKept floor (λ l. RunsWithin way from to l × (l.at ≤ℤ upto)) done

-- the marks that stand from one coordinate to another
abbrev pub marks_between : Floor → Way → ℤ → ℤ → List Mark
marks_between floor way from to = filter (λ m. is_within from to m.at) (all_marks floor way)

less_of_filter : {X : Type 0} (p q : X → Bool) (xs : List X) → count_by q (filter p xs) ≤ count_by q xs
less_of_filter p q xs = let e = sum_by-filter_both p (λ x. not (p x)) (λ x. refl) (λ x. cond (q x) 1 0) xs in omega (arith, e)

pub swept_at_first : (floor : Floor) (way : Way) (from to : ℤ) (marks : List Mark) (index : List Span) → IsFloor floor → IsPermutation (marks_between floor way from to) marks →
    AllPairs (λ m n. m.at ≤ℤ n.at) marks → AreSpansOf (bars_of way floor.solids) (HasBegun from) index → Swept floor way from to marks index []
swept_at_first floor way from to marks index is moved order spans =
    let before : ℤ = from -ℤ pos 1 in
    let between = marks_between floor way from to in
    record {
      upto = before;
      begun = omega (arith, ints);
      rest_each = λ m c.
          let a = Contains-permutation marks between m (IsPermutation-sym between marks moved) c in
          let f = among_filtered (λ (m : Mark). is_within from to m.at) (all_marks floor way) m (among_of_contains between m a) in
          let h = between_holds from to m.at f.1 in
          (contains_of_among (all_marks floor way) m f.0, omega (arith, ints, h.0), h.1);
      rest_all = λ m c h k.
          Contains-permutation between marks m moved
          (contains_of_among between m (among_filter (λ (m : Mark). is_within from to m.at) (all_marks floor way) m (among_of_contains (all_marks floor way) m c)
          (between_passes from to m.at (omega (arith, ints)) k)));
      ordered = order;
      once = λ k.
          let e = sum_by-IsPermutation (λ (m : Mark). cond (begins k m.kind) 1 0) between marks moved in
          let f = less_of_filter (λ (m : Mark). is_within from to m.at) (λ (m : Mark). begins k m.kind) (all_marks floor way) in
          let o = begins_once k way (bars_of way floor.solids) floor.anchors in omega (arith, e, f, o);
      open_spans = spans_alike (bars_of way floor.solids) (HasBegun from) (HasNotEnded before) index spans
          (λ k b g h. let f : b.begin <ℤ from = h.0 in let e : from ≤ℤ b.end = h.1 in (omega (arith, ints), omega (arith, ints)))
          (λ k b g h. let f : b.begin ≤ℤ before = h.0 in let e : before <ℤ b.end = h.1 in (omega (arith, ints), omega (arith, ints)));
      lines = record {
        kept = λ k d h. absurd (omega arith);
        all = λ l k w. let low = w.0.from in let f : l.at ≤ℤ before = w.1 in absurd (omega (arith, ints));
        ordered = λ i j d h k. absurd (omega arith);
      };
    }

pub swept_at_last : (floor : Floor) (way : Way) (from to : ℤ) (index : List Span) (done : List Line) → Swept floor way from to [] index done → AreKept floor (RunsWithin way from to) done
swept_at_last floor way from to index done s = record {
  kept = All-weaker (λ l. IsKept floor l × (RunsWithin way from to l × (l.at ≤ℤ s.upto))) (λ l. IsKept floor l × RunsWithin way from to l) (λ l h. (h.0, h.1.0)) done s.lines.kept;
  all = λ l k w. by_lt_z s.upto l.at
      (λ h. let m = mark_of_reason floor way l k.reason w.way_is in
      let late : s.upto <ℤ m.0.at = subst (λ z. s.upto <ℤ z) (sym m.2) h in
      let c = s.rest_all m.0 m.1 late (subst (λ z. z ≤ℤ to) (sym m.2) w.to) in absurd (omega (arith, c.1)))
      (λ h. s.lines.all l k (w, h));
  ordered = s.lines.ordered;
}

pub none_left : {X : Type 0} (xs : List X) → None ≡ slice_get xs 0 → xs ≡ []
none_left [] e = refl
none_left (x ∷ xs) e = absurd (cc)

before_later : (a b c d : ℤ) → a <ℤ b → (int_lt a b || (int_eq a b && int_lt c d)) ≡ true
before_later a b c d h = grind (arith, ints)

before_by_at : (v w way : Way) (a b c d : ℤ) → v ≡ way → w ≡ way → a <ℤ b → way_before v w (int_lt a b || (int_eq a b && int_lt c d)) ≡ true
before_by_at Vertical Vertical way a b c d e f h = before_later a b c d h
before_by_at Vertical Horizontal way a b c d e f h = refl
before_by_at Horizontal Vertical way a b c d e f h = absurd (let g : Horizontal ≡ Vertical = e ∙ sym f in cc)
before_by_at Horizontal Horizontal way a b c d e f h = before_later a b c d h

-- nothing in the rest stands before the first
first_least : (rest : List Mark) → AllPairs (λ m n. m.at ≤ℤ n.at) rest → (d m : Mark) (k : ℕ) → k < length rest → get_or rest k m ≡ m → (get_or rest 0 d).at ≤ℤ m.at
first_least rest o d m zero l e = let f : (get_or rest 0 d).at ≡ m.at = ap (λ (m : Mark). m.at) (get_or_default rest 0 d m l ∙ e) in omega (arith, ints)
first_least rest o d m (suc k) l e =
    let f : (get_or rest 0 d).at ≡ (get_or rest 0 m).at = ap (λ (m : Mark). m.at) (get_or_default rest 0 d m (omega arith)) in
    let g : (get_or rest 0 m).at ≤ℤ (get_or rest (suc k) m).at = o 0 (suc k) m (omega arith) l in
    let h : (get_or rest (suc k) m).at ≡ m.at = ap (λ (m : Mark). m.at) e in
    omega (arith, ints)

-- the marks that stand at the next coordinate are the first n of the rest
pub record Step (floor : Floor) (way : Way) (from to : ℤ) (rest : List Mark) (index : List Span) (done : List Line) (at : ℤ) (n : ℕ) : Type 0 where
  pub is : IsFloor floor
  pub swept : Swept floor way from to rest index done
  pub mark : Mark
  pub first_is : slice_get rest 0 ≡ Some mark
  pub read_is : at ≡ read mark.at
  pub bound : n ≤ length rest
  pub front : AllWithin (λ m. m.at ≤ℤ at) rest 0 n
  pub back : AllWithin (λ m. at <ℤ m.at) rest n (length rest)

pub stepped : (floor : Floor) (way : Way) (from to : ℤ) (rest : List Mark) (index : List Span) (done : List Line) (m : Mark) (n : ℕ) → IsFloor floor → Swept floor way from to rest index done →
    Some m ≡ slice_get rest 0 → n ≤ length rest → AllWithin (λ k. k.at ≤ℤ read m.at) rest 0 n → AllWithin (λ k. read m.at <ℤ k.at) rest n (length rest) → Step floor way from to rest index done (read m.at) n
stepped floor way from to rest index done m n is s e b f g = record { is = is; swept = s; mark = m; first_is = sym e; read_is = refl; bound = b; front = f; back = g }

-- one coordinate more
module _ (floor : Floor) (way : Way) (from to : ℤ) (rest : List Mark) (index : List Span) (done : List Line) (at : ℤ) (n : ℕ) (t : Step floor way from to rest index done at n) where
  first_is : (0 < length rest) × (get_or rest 0 t.mark ≡ t.mark)
  first_is = got_is rest 0 t.mark t.mark t.first_is

  first : 0 < length rest
  first = first_is.0

  here_is : at ≡ (get_or rest 0 t.mark).at
  here_is =
      let c : Contains rest t.mark = (0, first, first_is.1) in
      t.read_is ∙ read_back t.mark.at t.mark.at refl (mark_within floor way t.is t.mark (t.swept.rest_each t.mark c).0) ∙ ap (λ (m : Mark). m.at) (sym first_is.1)

  sound : (k : ℕ) (b : Bar) → slice_get (bars_of way floor.solids) k ≡ Some b → IsSound b
  sound = sound_bars way floor.solids t.is.solids

  at_least : (m : Mark) → Contains rest m → at ≤ℤ m.at
  at_least m c = let e = here_is in let h = first_least rest t.swept.ordered t.mark m c.0 c.1 c.2 in omega (arith, ints)

  first_mark : Contains (all_marks floor way) (get_or rest 0 t.mark) × (t.swept.upto <ℤ (get_or rest 0 t.mark).at) × ((get_or rest 0 t.mark).at ≤ℤ to)
  first_mark = t.swept.rest_each (get_or rest 0 t.mark) (Contains-get_or rest 0 t.mark first)

  past : t.swept.upto <ℤ at
  past = let e = here_is in let h = first_mark.1 in omega (arith, ints)

  within : at ≤ℤ to
  within = let e = here_is in let h = first_mark.2 in omega (arith, ints)

  in_here : (m : Mark) → Contains (take n rest) m → Contains rest m × (m.at ≤ℤ at)
  in_here m c =
      let k : c.0 < n = omega (arith, c.1, length-take-le n rest t.bound) in
      let e = sym (get_or-take n rest c.0 m k) ∙ c.2 in
      ((c.0, omega arith, e), subst (λ (m : Mark). m.at ≤ℤ at) e (t.front c.0 m (omega arith) k))

  in_later : (m : Mark) → Contains (drop n rest) m → Contains rest m × (at <ℤ m.at)
  in_later m c =
      let l : n + c.0 < length rest = omega (arith, c.1, length-drop n rest) in
      let e = sym (get_or-drop n rest c.0 m) ∙ c.2 in
      ((n + c.0, l, e), subst (λ (m : Mark). at <ℤ m.at) e (t.back (n + c.0) m (omega arith) l))

  here_or_later : (m : Mark) → Contains rest m → Contains (take n rest) m ⊎ Contains (drop n rest) m
  here_or_later m c = Contains-append_cases (take n rest) (drop n rest) m (subst (λ ms. Contains ms m) (sym (take-append-drop n rest)) c)

  pub are_at : AreAt at (all_marks floor way) (take n rest)
  are_at = record {
    each = λ m c. let h = in_here m c in let low = at_least m h.0 in let high = h.1 in ((t.swept.rest_each m h.0).0, omega (arith, ints));
    all = λ m c e. elim (here_or_later m (t.swept.rest_all m c (let p = past in omega (arith, ints)) (let p = within in omega (arith, ints)))) [
      | inl h ↦ h
      | inr h ↦ absurd (let l = (in_later m h).1 in omega (arith, ints))
    ];
  }

  pub begun : AreSpansOf (bars_of way floor.solids) (HasBegun at) index
  begun = spans_alike (bars_of way floor.solids) (HasNotEnded t.swept.upto) (HasBegun at) index t.swept.open_spans
      (λ k b g h.
      let p = past in
      let f : b.begin ≤ℤ t.swept.upto = h.0 in (
        omega (arith, ints),
        by_lt_z to b.end
            (λ l. let w = within in omega (arith, ints))
            (λ l. at_least (end_mark k b) (t.swept.rest_all (end_mark k b) (marks_have_sides way (bars_of way floor.solids) floor.anchors k b g).1 h.1 l)),
      ))
      (λ k b g h.
      let p = past in
      let w = within in
      let f : b.begin <ℤ at = h.0 in
      let e : at ≤ℤ b.end = h.1 in (
        by_lt_z t.swept.upto b.begin
            (λ l. absurd (let low = at_least (begin_mark k b) (t.swept.rest_all (begin_mark k b) (marks_have_sides way (bars_of way floor.solids) floor.anchors k b g).0 l (omega (arith, ints))) in omega (arith, ints)))
            (λ l. l),
        omega (arith, ints),
      ))

  pub new_lengths : (v : Span) → Any (λ m. begun_span m ≡ Some v) (take n rest) → HasLength v.lo v.hi
  new_lengths v x =
      let r = begun_spans way (bars_of way floor.solids) floor.anchors at (take n rest) are_at v x in
      subst (λ (u : Span). HasLength u.lo u.hi) (sym r.2) (sound v.key r.0 r.1).along

  pub once_here : (k : ℕ) → count_by (λ m. begins k m.kind) (take n rest) ≤ 1
  once_here k = let a = sum_by-take-le (λ (m : Mark). cond (begins k m.kind) 1 0) rest n in let o = t.swept.once k in omega (arith, a, o)

  pub shorter : length (drop n rest) < length rest
  shorter = elim (cases_lt 0 n) [
    | inl h ↦ omega (arith, length-drop n rest)
    | inr h ↦ absurd (let e = here_is in let l = t.back 0 t.mark h first in omega (arith, ints))
  ]

  pub crossed_by : (mid : List Span) → mid ≡ filter (λ s. not (list_any (λ m. ends s.key m.kind) (take n rest))) index → AreSpansOf (bars_of way floor.solids) (IsCrossed at) mid
  crossed_by mid e = subst (AreSpansOf (bars_of way floor.solids) (IsCrossed at)) (sym e) (closed way (bars_of way floor.solids) floor.anchors at (take n rest) are_at index begun)

  pub new_here : (mid : List Span) → AreSpansOf (bars_of way floor.solids) (IsCrossed at) mid → (v : Span) → Contains mid v → All (λ m. begins v.key m.kind ≡ false) (take n rest)
  new_here = new_keys way (bars_of way floor.solids) floor.anchors at (take n rest) are_at

  on_sheet : IsCoordinate at
  on_sheet = subst IsCoordinate (sym here_is) (mark_within floor way t.is (get_or rest 0 t.mark) first_mark.0)

  module _ (mid after : List Span) (crossed : AreSpansOf (bars_of way floor.solids) (IsCrossed at) mid) (listed : IsListed mid) (opens : AreOpened (take n rest) mid after) where
    new_lines : AreKept floor (λ l. (l.way ≡ way) × (l.at ≡ at)) (kept_gaps way at (take n rest) mid)
    new_lines = kept_lines floor way at (take n rest) mid t.is on_sheet are_at crossed listed

    abbrev Done : Line → Type 0
    Done l = IsKept floor l × (RunsWithin way from to l × (l.at ≤ℤ at))

    done_before : (l : Line) → IsKept floor l × (RunsWithin way from to l × (l.at ≤ℤ t.swept.upto)) → Done l
    done_before l h = let p = past in let f = h.1.1 in (h.0, (h.1.0, omega (arith, ints)))

    done_here : (l : Line) → IsKept floor l × ((l.way ≡ way) × (l.at ≡ at)) → Done l
    done_here l h =
        let e = h.1.1 in
        let b = t.swept.begun in
        let p = past in
        let w = within in
        (h.0, (record { way_is = h.1.0; from = omega (arith, ints); to = omega (arith, ints) }, omega (arith, ints)))

    has_line : (l : Line) → IsKept floor l → RunsWithin way from to l × (l.at ≤ℤ at) → Contains (done ++ kept_gaps way at (take n rest) mid) l
    has_line l k w = by_lt_z t.swept.upto l.at
        (λ h.
        let m = mark_of_reason floor way l k.reason w.0.way_is in
        let late : t.swept.upto <ℤ m.0.at = subst (λ z. t.swept.upto <ℤ z) (sym m.2) h in
        let low = at_least m.0 (t.swept.rest_all m.0 m.1 late (subst (λ z. z ≤ℤ to) (sym m.2) w.0.to)) in
        let e = m.2 in
        let high = w.1 in
        Contains-append_right done (kept_gaps way at (take n rest) mid) l (new_lines.all l k (w.0.way_is, omega (arith, ints))))
        (λ h. Contains-append_left done (kept_gaps way at (take n rest) mid) l (t.swept.lines.all l k (w.0, h)))

    before_new : (l m : Line) → Among l done → Among m (kept_gaps way at (take n rest) mid) → stands_before l m ≡ true
    before_new l m i j =
        let a = All-contains (λ l. IsKept floor l × (RunsWithin way from to l × (l.at ≤ℤ t.swept.upto))) done l t.swept.lines.kept (contains_of_among done l i) in
        let b = All-contains (λ l. IsKept floor l × ((l.way ≡ way) × (l.at ≡ at))) (kept_gaps way at (take n rest) mid) m new_lines.kept (contains_of_among _ m j) in
        let p = past in
        let f = a.1.1 in
        let e = b.1.1 in
        before_by_at l.way m.way way l.at m.at l.lo m.lo a.1.0.way_is b.1.0 (omega (arith, ints))

    in_order : Rising (λ l m. stands_before l m ≡ true) (done ++ kept_gaps way at (take n rest) mid)
    in_order = rising_joined (λ l m. stands_before l m ≡ true) done (kept_gaps way at (take n rest) mid)
        (rising_of_pairs (λ l m. stands_before l m ≡ true) done t.swept.lines.ordered)
        (rising_of_pairs (λ l m. stands_before l m ≡ true) (kept_gaps way at (take n rest) mid) new_lines.ordered)
        before_new

    pub swept_on : Swept floor way from to (drop n rest) after (done ++ kept_gaps way at (take n rest) mid)
    swept_on = record {
      upto = at;
      begun = let b = t.swept.begun in let p = past in omega (arith, ints);
      rest_each = λ m c. let h = in_later m c in let e = t.swept.rest_each m h.0 in (e.0, h.1, e.2);
      rest_all = λ m c h w. elim (here_or_later m (t.swept.rest_all m c (let p = past in omega (arith, ints)) w)) [
        | inl k ↦ absurd (let l = (in_here m k).1 in omega (arith, ints))
        | inr k ↦ k
      ];
      ordered = λ i j e h k.
          let l : n + j < length rest = omega (arith, k, length-drop n rest) in
          let r = t.swept.ordered (n + i) (n + j) e (omega arith) l in
          subst (λ (m : Mark). m.at ≤ℤ (get_or (drop n rest) j e).at) (sym (get_or-drop n rest i e)) (subst (λ (m : Mark). (get_or rest (n + i) e).at ≤ℤ m.at) (sym (get_or-drop n rest j e)) r);
      once = λ k. let a = sum_by-take-drop (λ (m : Mark). cond (begins k m.kind) 1 0) rest n in let o = t.swept.once k in omega (arith, a, o);
      open_spans = opened way (bars_of way floor.solids) floor.anchors at (take n rest) are_at mid after (λ k b g. (sound k b g).across.long) crossed opens;
      lines = record {
        kept = All-append Done done (kept_gaps way at (take n rest) mid)
            (All-weaker (λ l. IsKept floor l × (RunsWithin way from to l × (l.at ≤ℤ t.swept.upto))) Done done_before done t.swept.lines.kept)
            (All-weaker (λ l. IsKept floor l × ((l.way ≡ way) × (l.at ≡ at))) Done done_here (kept_gaps way at (take n rest) mid) new_lines.kept);
        all = has_line;
        ordered = pairs_of_rising (λ l m. stands_before l m ≡ true) (done ++ kept_gaps way at (take n rest) mid) in_order;
      };
    }
