-- The gaps that a mark keeps, on a whole line of which the marks and the spans are known, are its kept lines in order.
use Rattle.std.proofs.Common.{◌≡◌, ◌⊎◌, inl, inr, ℕ, ℤ, ◌≤ℤ◌, ◌<ℤ◌, Bool, true, not, Some, List, [], ◌∷◌, ◌++◌, get_or, refl, sym, ap, subst, arith, All, Contains}
use Rattle.std.specs.Prelude.{filter, slice_get, int_lt, ◌||◌, ◌&&◌}
use Rattle.std.specs.Ordering.{int_eq}
use Rattle.std.specs.List.{AllByRecursion, list_any}
use Rattle.std.proofs.lemmas.Int.{ints}
use Rattle.std.proofs.lemmas.Bool.Decides.{Decides-int_eq}
use Rattle.std.proofs.lemmas.List.Elements.{All-from_recursion, All-contains, All-append, All-weaker, Contains-get_or, Contains-append_left, Contains-append_right}
use Rattle.plane_geom.specs.declared.point.Way.{Way}
use Rattle.plane_geom.specs.declared.point.Way.TheVariants.{Vertical, Horizontal}
use Rattle.plane_geom.specs.declared.rect.Rect.{Rect}
use Rattle.plane_geom.specs.declared.rect.Solid.{Solid}
use Rattle.plane_geom.specs.declared.floor.Line.{Line}
use Rattle.plane_geom.specs.declared.floor.Floor.{Floor}
use Rattle.plane_geom.specs.Point.{IsCoordinate, sheet_start, sheet_end}
use Rattle.plane_geom.specs.Floor.{IsKept, IsFloor, IsSolid, first_side, last_side}
use Rattle.interval_index.specs.declared.span.Span.{Span}
use Rattle.interval_index.specs.Index.{IsListed}
use Rattle.sweep_lines.specs.declared.bar.Bar.{Bar}
use Rattle.sweep_lines.specs.declared.mark.Mark.{Mark}
use Rattle.sweep_lines.specs.Bars.{bar_of, bars_of}
use Rattle.sweep_lines.specs.Gaps.{Piece, gaps}
use Rattle.sweep_lines.specs.Marks.{marks_of, keeps, line_of, kept_gaps, AreAt}
use Rattle.sweep_lines.specs.Open.{AreSpansOf, IsCrossed, AreOpen, HasLength}
use Rattle.sweep_lines.specs.Kept.{AreKept, AreAllKept, RunsWithin, is_within, is_near}
use Rattle.plane_geom.specs.Order.{stands_before, way_before}
use Rattle.sweep_lines.proofs.Members.{Among, among_of_contains, contains_of_among, all_among, among_all, among_filter, among_filtered, among_map, among_mapped, Rising, rising_filter, rising_map, rising_joined, rising_of_pairs, pairs_of_rising, among_number, number_mapped}
use Rattle.sweep_lines.proofs.Gaps.{Rise, IsGap, AreApart}
use Rattle.sweep_lines.proofs.Longest.{are_gaps, apart, longest_of_gap, gap_of_longest}
use Rattle.sweep_lines.proofs.KeptAt.{rise_of_listed, are_open, reason_of_keeps, keeps_of_reason, and_left, and_right, and_both, not_lt, lt_not}

-- the bar lies on the sheet, and has a length both ways
pub record IsSound (b : Bar) : Type 0 where
  pub along : HasLength b.lo b.hi
  pub across : HasLength b.begin b.end

sound_bar : (way : Way) (q : Solid) → IsSolid q → IsSound (bar_of way q.rect)
sound_bar Vertical q s = record { along = record { from = s.on_sheet.top; to = s.on_sheet.bottom; long = s.high }; across = record { from = s.on_sheet.left; to = s.on_sheet.right; long = s.wide } }
sound_bar Horizontal q s = record { along = record { from = s.on_sheet.left; to = s.on_sheet.right; long = s.wide }; across = record { from = s.on_sheet.top; to = s.on_sheet.bottom; long = s.high } }

pub sound_bars : (way : Way) (solids : List Solid) → All IsSolid solids → (k : ℕ) (b : Bar) → slice_get (bars_of way solids) k ≡ Some b → IsSound b
sound_bars way solids all k b e =
    let r = number_mapped (λ (q : Solid). bar_of way q.rect) solids k b e in
    subst IsSound (sym r.2) (sound_bar way r.0 (All-contains IsSolid solids r.0 all (contains_of_among solids r.0 r.1)))

-- gaps rise
rise_by : (p : Piece) (qs : List Piece) → p.lo ≤ℤ p.hi → AllByRecursion (λ q. p.hi <ℤ q.lo) qs → AllByRecursion (λ q. p.lo <ℤ q.lo) qs
rise_by p [] o a = tt
rise_by p (q ∷ qs) o a = (let h : p.hi <ℤ q.lo = a.0 in omega (arith, ints), rise_by p qs o a.1)

gaps_rise : (from : ℤ) (ss : List Span) (ps : List Piece) → AllByRecursion (IsGap from ss) ps → AreApart ps → Rising (λ (p q : Piece). p.lo <ℤ q.lo) ps
gaps_rise from ss [] g a = tt
gaps_rise from ss (p ∷ ps) g a = (rise_by p ps g.0.ordered a.0, gaps_rise from ss ps g.1 a.1)

before_at : (at a b : ℤ) → a <ℤ b → (int_lt at at || (int_eq at at && int_lt a b)) ≡ true
before_at at a b h = grind (arith, ints, Decides-int_eq at at)

before_by_lo : (way : Way) (at : ℤ) (p q : Piece) → p.lo <ℤ q.lo → stands_before (line_of way at p) (line_of way at q) ≡ true
before_by_lo Vertical at p q h = before_at at p.lo q.lo h
before_by_lo Horizontal at p q h = before_at at p.lo q.lo h

rising_more : {X : Type 0} (R S : X → X → Type 0) → ((x y : X) → R x y → S x y) → (xs : List X) → Rising R xs → Rising S xs
rising_more R S f [] r = tt
rising_more R S f (x ∷ xs) r = (among_all (S x) xs (λ y i. f x y (all_among (R x) xs r.0 y i)), rising_more R S f xs r.1)

module _ (floor : Floor) (way : Way) (at : ℤ) (here : List Mark) (ss : List Span) (is : IsFloor floor) (on : IsCoordinate at)
    (are : AreAt at (marks_of way (bars_of way floor.solids) floor.anchors) here)
    (spans : AreSpansOf (bars_of way floor.solids) (IsCrossed at) ss) (listed : IsListed ss) where
  rise : Rise ss
  rise = rise_of_listed ss listed

  crossed : AreOpen way at floor.solids ss
  crossed = are_open way at floor.solids ss (λ k b e. (sound_bars way floor.solids is.solids k b e).along.long) spans

  abbrev test : Piece → Bool
  test p = list_any (keeps p) here

  kept_of_gap : (p : Piece) → Among p (gaps sheet_start ss) → test p ≡ true → IsKept floor (line_of way at p)
  kept_of_gap p i e = record {
    longest = longest_of_gap floor way at ss on crossed rise p i;
    reason = reason_of_keeps floor way at here are p e;
  }

  kept_of : (l : Line) → Among l (kept_gaps way at here ss) → IsKept floor l × ((l.way ≡ way) × (l.at ≡ at))
  kept_of l i =
      let r = among_mapped (line_of way at) (filter test (gaps sheet_start ss)) l i in
      let f = among_filtered test (gaps sheet_start ss) r.0 r.1 in
      (subst (IsKept floor) (sym r.2) (kept_of_gap r.0 f.0 f.1), (ap (λ (l : Line). l.way) r.2, ap (λ (l : Line). l.at) r.2))

  gap_of_kept : (p : Piece) → IsKept floor (line_of way at p) → Among (line_of way at p) (kept_gaps way at here ss)
  gap_of_kept p k =
      among_map (line_of way at) (filter test (gaps sheet_start ss)) p
      (among_filter test (gaps sheet_start ss) p (gap_of_longest floor way at ss on crossed rise p k.longest) (keeps_of_reason floor way at here are p k.reason))

  all_of : (l : Line) → IsKept floor l → (l.way ≡ way) × (l.at ≡ at) → Contains (kept_gaps way at here ss) l
  all_of l k w =
      let p : Piece = record { lo = l.lo; hi = l.hi } in
      let e : l ≡ line_of way at p = λ i. record { way = w.0 i; at = w.1 i; lo = l.lo; hi = l.hi } in
      contains_of_among (kept_gaps way at here ss) l (subst (λ m. Among m (kept_gaps way at here ss)) (sym e) (gap_of_kept p (subst (IsKept floor) e k)))

  in_order : Rising (λ l m. stands_before l m ≡ true) (kept_gaps way at here ss)
  in_order =
      rising_map (λ l m. stands_before l m ≡ true) (line_of way at) (filter test (gaps sheet_start ss))
      (rising_more (λ (p q : Piece). p.lo <ℤ q.lo) (λ p q. stands_before (line_of way at p) (line_of way at q) ≡ true) (before_by_lo way at) (filter test (gaps sheet_start ss))
      (rising_filter (λ (p q : Piece). p.lo <ℤ q.lo) test (gaps sheet_start ss)
      (gaps_rise sheet_start ss (gaps sheet_start ss) (are_gaps floor way at ss on crossed rise) (apart floor way at ss on crossed rise))))

  pub kept_lines : AreKept floor (λ l. (l.way ≡ way) × (l.at ≡ at)) (kept_gaps way at here ss)
  kept_lines = record {
    kept = All-from_recursion (λ l. IsKept floor l × ((l.way ≡ way) × (l.at ≡ at))) (kept_gaps way at here ss) (among_all (λ l. IsKept floor l × ((l.way ≡ way) × (l.at ≡ at))) (kept_gaps way at here ss) kept_of);
    all = all_of;
    ordered = pairs_of_rising (λ l m. stands_before l m ≡ true) (kept_gaps way at here ss) in_order;
  }

pub long_bars : (way : Way) (solids : List Solid) → All IsSolid solids → All (λ b. HasLength b.lo b.hi) (bars_of way solids)
long_bars way solids all = λ k d l.
    let r = among_number (bars_of way solids) (get_or (bars_of way solids) k d) (among_of_contains _ _ (Contains-get_or (bars_of way solids) k d l)) in
    (sound_bars way solids all r.0 (get_or (bars_of way solids) k d) r.1).along

-- where the same is asked of kept lines in other words, they are the same
pub asked_alike : (floor : Floor) (Is Becomes : Line → Type 0) (ls : List Line) → ((l : Line) → IsKept floor l → Is l → Becomes l) → ((l : Line) → Becomes l → Is l) →
    AreKept floor Is ls → AreKept floor Becomes ls
asked_alike floor Is Becomes ls f g a = record {
  kept = All-weaker (λ l. IsKept floor l × Is l) (λ l. IsKept floor l × Becomes l) (λ l h. (h.0, f l h.0 h.1)) ls a.kept;
  all = λ l k h. a.all l k (g l h);
  ordered = a.ordered;
}

-- whether a number is between others
pub between_holds : (first last z : ℤ) → is_within first last z ≡ true → (first ≤ℤ z) × (z ≤ℤ last)
between_holds first last z e =
    let a = not (int_lt z first) in
    let b = not (int_lt last z) in
    (not_lt z first (and_left a b e), not_lt last z (and_right a b e))

pub between_passes : (first last z : ℤ) → first ≤ℤ z → z ≤ℤ last → is_within first last z ≡ true
between_passes first last z h k = and_both (not (int_lt z first)) (not (int_lt last z)) (lt_not z first h) (lt_not last z k)

pub near_holds : (near : Rect) (l : Line) → is_near near l ≡ true → RunsWithin l.way (first_side l.way near) (last_side l.way near) l
near_holds near l e = let h = between_holds (first_side l.way near) (last_side l.way near) l.at e in record { way_is = refl; from = h.0; to = h.1 }

pub near_passes : (near : Rect) (way : Way) (l : Line) → RunsWithin way (first_side way near) (last_side way near) l → is_near near l ≡ true
near_passes near way l b =
    subst (λ w. is_within (first_side w near) (last_side w near) l.at ≡ true) (sym b.way_is) (between_passes (first_side way near) (last_side way near) l.at b.from b.to)

-- what `lines_at` has at its end
pub on_one_line : (floor : Floor) (way : Way) (at : ℤ) (ls : List Line) → AreKept floor (RunsWithin way at at) ls → AreKept floor (λ l. (l.way ≡ way) × (l.at ≡ at)) ls
on_one_line floor way at ls = asked_alike floor (RunsWithin way at at) (λ l. (l.way ≡ way) × (l.at ≡ at)) ls
    (λ l k b. (b.way_is, omega (arith, ints, b.from, b.to)))
    (λ l h. let e = h.1 in record { way_is = h.0; from = omega (arith, ints); to = omega (arith, ints) })

-- vertical lines, then horizontal ones
either_way : (w : Way) → (w ≡ Vertical) ⊎ (w ≡ Horizontal)
either_way Vertical = inl refl
either_way Horizontal = inr refl

upright_first : (v w : Way) (rest : Bool) → v ≡ Vertical → w ≡ Horizontal → way_before v w rest ≡ true
upright_first Vertical Vertical rest e f = absurd (cc)
upright_first Vertical Horizontal rest e f = refl
upright_first Horizontal w rest e f = absurd (cc)

pub both_ways : (floor : Floor) (near : Rect) (ls ms : List Line) → AreKept floor (RunsWithin Vertical near.left near.right) ls → AreKept floor (RunsWithin Horizontal near.top near.bottom) ms →
    AreKept floor (λ l. is_near near l ≡ true) (ls ++ ms)
both_ways floor near ls ms a b =
    record {
      kept = All-append (λ l. IsKept floor l × (is_near near l ≡ true)) ls ms
          (All-weaker (λ l. IsKept floor l × RunsWithin Vertical near.left near.right l) (λ l. IsKept floor l × (is_near near l ≡ true)) (λ l h. (h.0, near_passes near Vertical l h.1)) ls a.kept)
          (All-weaker (λ l. IsKept floor l × RunsWithin Horizontal near.top near.bottom l) (λ l. IsKept floor l × (is_near near l ≡ true)) (λ l h. (h.0, near_passes near Horizontal l h.1)) ms b.kept);
      all = λ l k w.
          let between = near_holds near l w in
          elim (either_way l.way) [
            | inl e ↦ Contains-append_left ls ms l (a.all l k (subst (λ v. RunsWithin v (first_side v near) (last_side v near) l) e between))
            | inr e ↦ Contains-append_right ls ms l (b.all l k (subst (λ v. RunsWithin v (first_side v near) (last_side v near) l) e between))
          ];
      ordered = pairs_of_rising (λ l m. stands_before l m ≡ true) (ls ++ ms)
          (rising_joined (λ l m. stands_before l m ≡ true) ls ms (rising_of_pairs _ ls a.ordered) (rising_of_pairs _ ms b.ordered)
          (λ l m i j. upright_first l.way m.way _
          (All-contains (λ l. IsKept floor l × RunsWithin Vertical near.left near.right l) ls l a.kept (contains_of_among ls l i)).1.way_is
          (All-contains (λ l. IsKept floor l × RunsWithin Horizontal near.top near.bottom l) ms m b.kept (contains_of_among ms m j)).1.way_is));
    }

-- the whole sheet
abbrev pub sheet : Rect
sheet = record { left = sheet_start; top = sheet_start; right = sheet_end; bottom = sheet_end }

between_ends : (way : Way) (l : Line) → l.way ≡ way → IsCoordinate l.at → RunsWithin way (first_side way sheet) (last_side way sheet) l
between_ends Vertical l e on = record { way_is = e; from = on.low; to = on.high }
between_ends Horizontal l e on = record { way_is = e; from = on.low; to = on.high }

-- each kept line is near the whole sheet
pub on_whole_sheet : (floor : Floor) (ls : List Line) → AreKept floor (λ l. is_near sheet l ≡ true) ls → AreAllKept floor ls
on_whole_sheet floor ls a = record {
  kept = All-weaker (λ l. IsKept floor l × (is_near sheet l ≡ true)) (λ l. IsKept floor l × Unit {0}) (λ l h. (h.0, tt)) ls a.kept;
  all = λ l k _. a.all l k (near_passes sheet l.way l (between_ends l.way l refl k.longest.piece.at));
  ordered = a.ordered;
}
