-- Each step of a part between two anchors lies in a kept line.
use Rattle.std.proofs.Common.{◌≡◌, ◌⊎◌, ℕ, suc, zero, ◌+◌, ◌<◌, ◌≤◌, ℤ, ◌≤ℤ◌, ◌<ℤ◌, None, List, [], ◌∷◌, ◌++◌, replicate, get_or, All, Any, Contains, refl, sym, ap, subst, ◌∙◌, inl, inr, arith, append_assoc}
use Rattle.std.proofs.lemmas.Int.{ints}
use Rattle.std.proofs.lemmas.List.{replicate-append-replicate}
use Rattle.plane_geom.specs.declared.point.Point.{Point}
use Rattle.plane_geom.specs.declared.point.Dir.{Dir}
use Rattle.plane_geom.specs.declared.point.Dir.TheVariants.{East, South, West, North}
use Rattle.plane_geom.specs.declared.point.Way.{Way}
use Rattle.plane_geom.specs.declared.floor.Line.{Line}
use Rattle.plane_geom.specs.declared.floor.Floor.{Floor}
use Rattle.plane_geom.specs.declared.rect.Rect.{Rect}
use Rattle.plane_geom.specs.declared.rect.Solid.{Solid}
use Rattle.plane_geom.specs.Point.{IsCoordinate, PointIsOnSheet, forward}
use Rattle.plane_geom.specs.Rect.{RectIsOnSheet, IsWithin, Meets, Overlaps}
use Rattle.plane_geom.specs.Floor.{Holds, SharesSide, IsFreePiece, IsKept, AreOnOneWholeLine, point_on}
use Rattle.plane_geom.specs.Along.{way_of, across}
use Rattle.plane_geom.proofs.Steps.{some_step}
use Rattle.plane_geom.proofs.LongestPiece.{in_longest}
use Rattle.walk_model.specs.declared.task.Task.{Task}
use Rattle.walk_model.specs.Walk.{after}
use Rattle.walk_model.specs.Cost.{turn}
use Rattle.walk_model.specs.Order.{Triple, IsFirst}
use Rattle.walk_model.proofs.CornerByCorner.Scan.{after-append, after-replicate, forward-zero, forward-forward}
use Rattle.walk_model.proofs.CornerByCorner.Bends.{one_direction, stretch_end}
use Rattle.walk_laws.specs.Lines.{run_line}
use Rattle.walk_laws.specs.Sides.{SharesSideTo, held_to}
use Rattle.walk_laws.proofs.Steps.Clear.{IsClear, IsClearStep, clear_front, clear_back}
use Rattle.walk_laws.proofs.Steps.Shift.{across-forward}
use Rattle.walk_laws.proofs.Steps.Flanks.{run_holds, shares_side}
use Rattle.walk_laws.proofs.Replacing.Parts.{IsPart, part_of_part}
use Rattle.walk_laws.proofs.Replacing.InnerRuns.{no_doubling, inner_run}

-- the run of equal steps in which a step lies, within some steps
pub record Run (xs : List Dir) (d : Dir) (ys : List Dir) : Type 0 where
  pub before : List Dir
  pub sooner : ℕ
  pub later : ℕ
  pub behind : List Dir
  pub left : xs ≡ before ++ replicate sooner d
  pub right : ys ≡ replicate later d ++ behind
  pub begins : (before ≡ []) ⊎ ((u : Dir) × (rest : List Dir) × (before ≡ rest ++ u ∷ []) × (0 < turn u d))
  pub ends : (behind ≡ []) ⊎ ((v : Dir) × (rest : List Dir) × (behind ≡ v ∷ rest) × (0 < turn d v))

record Later (d : Dir) (ys : List Dir) : Type 0 where
  count : ℕ
  rest : List Dir
  all : ys ≡ replicate count d ++ rest
  ends : (rest ≡ []) ⊎ ((v : Dir) × (more : List Dir) × (rest ≡ v ∷ more) × (0 < turn d v))

later_steps : (d : Dir) (ys : List Dir) → Later d ys
later_steps d [] = record { count = 0; rest = []; all = refl; ends = inl refl }
later_steps d (e ∷ ys) = elim (one_direction d e) as (λ _. Later d (e ∷ ys)) [
  | inl same ↦ (let l = later_steps d ys in record { count = suc l.count; rest = l.rest; all = ap (λ (f : Dir). f ∷ ys) (sym same) ∙ ap (λ ds. d ∷ ds) l.all; ends = l.ends })
  | inr other ↦ record { count = 0; rest = e ∷ ys; all = refl; ends = inr (e, ys, refl, other) }
]

record Sooner (d : Dir) (xs : List Dir) : Type 0 where
  count : ℕ
  rest : List Dir
  all : xs ≡ rest ++ replicate count d
  begins : (rest ≡ []) ⊎ ((u : Dir) × (more : List Dir) × (rest ≡ more ++ u ∷ []) × (0 < turn u d))

sooner_steps : (d : Dir) (xs : List Dir) → Sooner d xs
sooner_steps d [] = record { count = 0; rest = []; all = refl; begins = inl refl }
sooner_steps d (e ∷ xs) = by_rest (sooner_steps d xs)
  where
    by_rest : Sooner d xs → Sooner d (e ∷ xs)
    by_rest s = elim s.begins as (λ _. Sooner d (e ∷ xs)) [
      | inl none ↦ (let all : xs ≡ replicate s.count d = s.all ∙ ap (λ ds. ds ++ replicate s.count d) none in elim (one_direction e d) as (λ _. Sooner d (e ∷ xs)) [
        | inl same ↦ record { count = suc s.count; rest = []; all = ap (λ (f : Dir). f ∷ xs) same ∙ ap (λ ds. d ∷ ds) all; begins = inl refl }
        | inr other ↦ record { count = s.count; rest = e ∷ []; all = ap (λ ds. e ∷ ds) all; begins = inr (e, [], refl, other) }
      ])
      | inr some ↦ record { count = s.count; rest = e ∷ s.rest; all = ap (λ ds. e ∷ ds) s.all; begins = inr (some.0, e ∷ some.1, ap (λ ds. e ∷ ds) some.2, some.3) }
    ]

pub run_of : (xs : List Dir) (d : Dir) (ys : List Dir) → Run xs d ys
run_of xs d ys =
    let s = sooner_steps d xs in
    let l = later_steps d ys in
    record { before = s.rest; sooner = s.count; later = l.count; behind = l.rest; left = s.all; right = l.all; begins = s.begins; ends = l.ends }

abbrev pub run_length : {xs : List Dir} {d : Dir} {ys : List Dir} → Run xs d ys → ℕ
run_length r = suc (r.sooner + r.later)

pub whole_run : (xs : List Dir) (d : Dir) (ys : List Dir) (r : Run xs d ys) → xs ++ d ∷ ys ≡ r.before ++ (replicate (run_length r) d ++ r.behind)
whole_run xs d ys r =
    ap (λ ds. ds ++ d ∷ ys) r.left ∙ append_assoc r.before (replicate r.sooner d) (d ∷ ys)
    ∙ ap (λ ds. r.before ++ ds) (ap (λ ds. replicate r.sooner d ++ (d ∷ ds)) r.right ∙ sym (append_assoc (replicate r.sooner d) (replicate (suc r.later) d) r.behind)
    ∙ ap (λ ds. ds ++ r.behind) (replicate-append-replicate r.sooner (suc r.later) d ∙ ap (λ n. replicate n d) (let same : r.sooner + suc r.later ≡ run_length r = omega arith in same)))

-- the steps of a clear run
clear_step : (solids : List Solid) (p : Point) (d : Dir) (n k : ℕ) → k < n → IsClear solids None p (replicate n d) → IsClearStep solids None (forward d k p) d
clear_step solids p d zero k h c = absurd (omega arith)
clear_step solids p d (suc n) zero h c = subst (λ x. IsClearStep solids None x d) (sym (forward-zero d p)) c.0
clear_step solids p d (suc n) (suc k) h c =
    subst (λ x. IsClearStep solids None x d) (forward-forward d k 1 p ∙ ap (λ m. forward d m p) (omega arith)) (clear_step solids (forward d 1 p) d n k (omega arith) c.1)

overlaps_back : (low high a b : ℤ) → Overlaps low high a b → Overlaps low high b a
overlaps_back low high a b o = record {
  q = o.q;
  z = o.z;
  divides = o.divides;
  inside = o.inside;
  within = elim o.within as (λ _. IsWithin b a o.q o.z ⊎ IsWithin a b o.q o.z) [ inl h ↦ inr h | inr h ↦ inl h ];
}

pub meets_back : (r : Rect) (a b : Point) → Meets r a b → Meets r b a
meets_back r a b m = record { x = overlaps_back r.left r.right a.x b.x m.x; y = overlaps_back r.top r.bottom a.y b.y m.y }

-- the run meets no solid as a whole
run_not_met : (solids : List Solid) (p : Point) (d : Dir) (n : ℕ) → 0 < n → IsClear solids None p (replicate n d) → All (λ s. Meets s.rect p (forward d n p) → ⊥) solids
run_not_met solids p d n some c k s inside m =
    let step = some_step (get_or solids k s).rect p d n some m in
    clear_step solids p d n step.0 step.1 c k s inside (λ e. cc) step.2

pub run_piece : (floor : Floor) (p : Point) (d : Dir) (n : ℕ) → 0 < n → IsClear floor.solids None p (replicate n d) → PointIsOnSheet p → PointIsOnSheet (forward d n p) → IsFreePiece floor (run_line p d n)
run_piece floor p East n some c h k = record { at = h.y; lo = h.x; hi = k.x; ordered = omega (arith, ints); free = run_not_met floor.solids p East n some c }
run_piece floor p South n some c h k = record { at = h.x; lo = h.y; hi = k.y; ordered = omega (arith, ints); free = run_not_met floor.solids p South n some c }
run_piece floor p West n some c h k = record { at = h.y; lo = k.x; hi = h.x; ordered = omega (arith, ints); free = λ i s inside m. run_not_met floor.solids p West n some c i s inside (meets_back _ _ _ m) }
run_piece floor p North n some c h k = record { at = h.x; lo = k.y; hi = h.y; ordered = omega (arith, ints); free = λ i s inside m. run_not_met floor.solids p North n some c i s inside (meets_back _ _ _ m) }

run_way : (p : Point) (d : Dir) (n : ℕ) → (run_line p d n).way ≡ way_of d
run_way p East n = refl
run_way p South n = refl
run_way p West n = refl
run_way p North n = refl

pub run_some : (p : Point) (d : Dir) (n : ℕ) → 0 < n → (run_line p d n).lo <ℤ (run_line p d n).hi
run_some p East n h = omega (arith, ints)
run_some p South n h = omega (arith, ints)
run_some p West n h = omega (arith, ints)
run_some p North n h = omega (arith, ints)

pub across_coordinate : (d : Dir) (p : Point) → PointIsOnSheet p → IsCoordinate (across (way_of d) p)
across_coordinate East p h = h.y
across_coordinate South p h = h.x
across_coordinate West p h = h.y
across_coordinate North p h = h.x

two_coordinates : (u d : Dir) (p : Point) → turn u d ≡ 1 → IsCoordinate (across (way_of u) p) → IsCoordinate (across (way_of d) p) → PointIsOnSheet p
two_coordinates East East p h a b = absurd (omega (arith, h))
two_coordinates South South p h a b = absurd (omega (arith, h))
two_coordinates West West p h a b = absurd (omega (arith, h))
two_coordinates North North p h a b = absurd (omega (arith, h))
two_coordinates East West p h a b = absurd (omega (arith, h))
two_coordinates South North p h a b = absurd (omega (arith, h))
two_coordinates West East p h a b = absurd (omega (arith, h))
two_coordinates North South p h a b = absurd (omega (arith, h))
two_coordinates East _ p h a b = record { x = b; y = a }
two_coordinates West _ p h a b = record { x = b; y = a }
two_coordinates South _ p h a b = record { x = a; y = b }
two_coordinates North _ p h a b = record { x = a; y = b }

side_coordinate : (r : Rect) (p : Point) (d : Dir) (n : ℕ) → RectIsOnSheet r → SharesSide (run_line p d n) r → IsCoordinate (across (way_of d) p)
side_coordinate r p East n h s = elim s.2.0 as (λ _. IsCoordinate p.y) [ inl e ↦ subst IsCoordinate e h.top | inr e ↦ subst IsCoordinate e h.bottom ]
side_coordinate r p South n h s = elim s.2.0 as (λ _. IsCoordinate p.x) [ inl e ↦ subst IsCoordinate e h.left | inr e ↦ subst IsCoordinate e h.right ]
side_coordinate r p West n h s = elim s.2.0 as (λ _. IsCoordinate p.y) [ inl e ↦ subst IsCoordinate e h.top | inr e ↦ subst IsCoordinate e h.bottom ]
side_coordinate r p North n h s = elim s.2.0 as (λ _. IsCoordinate p.x) [ inl e ↦ subst IsCoordinate e h.left | inr e ↦ subst IsCoordinate e h.right ]

-- a line on the same whole line that reaches further holds and shares what the other does
pub holds_longer : (l m : Line) (p : Point) → AreOnOneWholeLine m l → m.lo ≤ℤ l.lo → l.hi ≤ℤ m.hi → Holds l p → Holds m p
holds_longer l m p o from to h = record {
  along = h.along;
  from = omega (arith, ints, from, h.from);
  to = omega (arith, ints, to, h.to);
  here = h.here ∙ ap (λ (w : Way). point_on w l.at h.along) (sym o.way) ∙ ap (λ (z : ℤ). point_on m.way z h.along) (sym o.at);
}

side_longer : (l m : Line) (r : Rect) → AreOnOneWholeLine m l → m.lo ≤ℤ l.lo → l.hi ≤ℤ m.hi → SharesSide l r → SharesSide m r
side_longer l m r o from to s =
    let moved : SharesSide (record { way = m.way; at = m.at; lo = l.lo; hi = l.hi }) r =
    subst (λ (w : Way). SharesSide (record { way = w; at = m.at; lo = l.lo; hi = l.hi }) r) (sym o.way)
    (subst (λ (z : ℤ). SharesSide (record { way = l.way; at = z; lo = l.lo; hi = l.hi }) r) (sym o.at) s) in
    (moved.0, moved.1, moved.2, omega (arith, ints, from, moved.3), omega (arith, ints, to, moved.4))

-- a kept line along a step holds both its ends
pub record IsKeptStep (floor : Floor) (p : Point) (d : Dir) : Type 0 where
  pub line : Line
  pub kept : IsKept floor line
  pub way : line.way ≡ way_of d
  pub begin : Holds line p
  pub end : Holds line (forward d 1 p)

module _ (floor : Floor) (task : Task) (t : Triple) (first : IsFirst floor.solids task t) (front part back : List Dir) (h : IsPart floor.solids task t front part back) where
  abbrev q : Point
  q = after t.walk.start front

  -- a run of a part begins with it, ends with it, or shares a side of a solid
  pub why : (xs : List Dir) (d : Dir) (ys : List Dir) (e : part ≡ xs ++ d ∷ ys) (r : Run xs d ys) →
      (r.before ≡ []) ⊎ ((r.behind ≡ []) ⊎ Any (λ s. SharesSide (run_line (after q r.before) d (run_length r)) s.rect) floor.solids)
  why xs d ys e r = by_ends r.begins r.ends
    where
      by_ends : (r.before ≡ []) ⊎ ((u : Dir) × (rest : List Dir) × (r.before ≡ rest ++ u ∷ []) × (0 < turn u d)) → (r.behind ≡ []) ⊎ ((v : Dir) × (rest : List Dir) × (r.behind ≡ v ∷ rest) × (0 < turn d v)) →
          (r.before ≡ []) ⊎ ((r.behind ≡ []) ⊎ Any (λ s. SharesSide (run_line (after q r.before) d (run_length r)) s.rect) floor.solids)
      by_ends (inl none) b = inl none
      by_ends (inr a) (inl none) = inr (inl none)
      by_ends (inr (u, us, f, hu)) (inr (v, vs, g, hv)) =
          let n = run_length r in
          let cut : part ≡ us ++ ((u ∷ (replicate n d ++ (v ∷ []))) ++ vs) =
          e ∙ whole_run xs d ys r ∙ ap (λ ds. ds ++ (replicate n d ++ r.behind)) f ∙ append_assoc us (u ∷ []) (replicate n d ++ r.behind)
          ∙ ap (λ ds. us ++ (u ∷ (replicate n d ++ ds))) g ∙ ap (λ ds. us ++ (u ∷ ds)) (sym (append_assoc (replicate n d) (v ∷ []) vs)) in
          let inner = part_of_part floor.solids task t front us (u ∷ (replicate n d ++ (v ∷ []))) vs back (subst (λ ds. IsPart floor.solids task t front ds back) cut h) in
          let there : forward u 1 (after t.walk.start (front ++ us)) ≡ after q r.before =
          ap (forward u 1) (after-append t.walk.start front us) ∙ sym (after-append q us (u ∷ [])) ∙ ap (after q) (sym f) in
          let run = run_line (forward u 1 (after t.walk.start (front ++ us))) d n in
          let held : Any (λ s. SharesSideTo (held_to u v) run s.rect) floor.solids = inner_run floor.solids task t first (front ++ us) (vs ++ back) u d v (r.sooner + r.later) hu hv inner in
          let beside : Any (λ s. SharesSide run s.rect) floor.solids = (held.0, held.1, held.2, held.3, shares_side (held_to u v) run held.1.rect held.4) in
          inr (inr (subst (λ x. Any (λ s. SharesSide (run_line x d n) s.rect) floor.solids) there beside))

  module _ (sides : All (λ s. RectIsOnSheet s.rect) floor.solids) (begin_in : PointIsOnSheet q) (end_in : PointIsOnSheet (after q part)) where
    -- where a run begins and where it ends
    at_begin : (xs : List Dir) (d : Dir) (ys : List Dir) (r : Run xs d ys) → after q xs ≡ forward d r.sooner (after q r.before)
    at_begin xs d ys r = ap (after q) r.left ∙ after-append q r.before (replicate r.sooner d) ∙ after-replicate (after q r.before) r.sooner d

    at_end : (xs : List Dir) (d : Dir) (ys : List Dir) → part ≡ xs ++ d ∷ ys → (r : Run xs d ys) → after q part ≡ after (forward d (run_length r) (after q r.before)) r.behind
    at_end xs d ys e r =
        ap (after q) (e ∙ whole_run xs d ys r) ∙ after-append q r.before (replicate (run_length r) d ++ r.behind)
        ∙ after-append (after q r.before) (replicate (run_length r) d) r.behind ∙ ap (λ x. after x r.behind) (after-replicate (after q r.before) (run_length r) d)

    -- the coordinate across each step of a part is one of the sheet
    pub across_in : (xs : List Dir) (d : Dir) (ys : List Dir) → part ≡ xs ++ d ∷ ys → IsCoordinate (across (way_of d) (after q xs))
    across_in xs d ys e =
        let r = run_of xs d ys in
        let p = after q r.before in
        let here : across (way_of d) p ≡ across (way_of d) (after q xs) = sym (ap (across (way_of d)) (at_begin xs d ys r) ∙ across-forward d r.sooner p) in
        subst IsCoordinate here (elim (why xs d ys e r) as (λ _. IsCoordinate (across (way_of d) p)) [
          | inl none ↦ across_coordinate d p (subst (λ ds. PointIsOnSheet (after q ds)) (sym none) begin_in)
          | inr (inl none) ↦ (
              let end : after q part ≡ forward d (run_length r) p = at_end xs d ys e r ∙ ap (after (forward d (run_length r) p)) none in
              subst IsCoordinate (ap (across (way_of d)) end ∙ across-forward d (run_length r) p) (across_coordinate d (after q part) end_in))
          | inr (inr side) ↦ (
              let s = side.1 in
              let on : RectIsOnSheet s.rect = subst (λ (x : Solid). RectIsOnSheet x.rect) side.3 (sides side.0 s side.2) in
              side_coordinate s.rect p d (run_length r) on side.4)
        ])

    run_begin_in : (xs : List Dir) (d : Dir) (ys : List Dir) → part ≡ xs ++ d ∷ ys → (r : Run xs d ys) → PointIsOnSheet (after q r.before)
    run_begin_in xs d ys e r = elim r.begins as (λ _. PointIsOnSheet (after q r.before)) [
      | inl none ↦ subst (λ ds. PointIsOnSheet (after q ds)) (sym none) begin_in
      | inr (u, rest, f, hu) ↦ (
          let n = run_length r in
          let whole : part ≡ rest ++ u ∷ (replicate n d ++ r.behind) = e ∙ whole_run xs d ys r ∙ ap (λ ds. ds ++ (replicate n d ++ r.behind)) f ∙ append_assoc rest (u ∷ []) (replicate n d ++ r.behind) in
          let there : after q r.before ≡ forward u 1 (after q rest) = ap (after q) f ∙ after-append q rest (u ∷ []) in
          let one : IsCoordinate (across (way_of u) (after q r.before)) = subst IsCoordinate (sym (ap (across (way_of u)) there ∙ across-forward u 1 (after q rest))) (across_in rest u (replicate n d ++ r.behind) whole) in
          let other : IsCoordinate (across (way_of d) (after q r.before)) = across_in r.before d (replicate (r.sooner + r.later) d ++ r.behind) (e ∙ whole_run xs d ys r) in
          let two = part_of_part floor.solids task t front rest (u ∷ d ∷ []) (replicate (r.sooner + r.later) d ++ r.behind) back (subst (λ ds. IsPart floor.solids task t front ds back) whole h) in
          two_coordinates u d (after q r.before) (no_doubling floor.solids task t first (front ++ rest) ((replicate (r.sooner + r.later) d ++ r.behind) ++ back) u d two hu) one other)
    ]

    run_end_in : (xs : List Dir) (d : Dir) (ys : List Dir) → part ≡ xs ++ d ∷ ys → (r : Run xs d ys) → PointIsOnSheet (forward d (run_length r) (after q r.before))
    run_end_in xs d ys e r = elim r.ends as (λ _. PointIsOnSheet (forward d (run_length r) (after q r.before))) [
      | inl none ↦ subst PointIsOnSheet (at_end xs d ys e r ∙ ap (after (forward d (run_length r) (after q r.before))) none) end_in
      | inr (v, rest, f, hv) ↦ (
          let n = r.sooner + r.later in
          let p = after q r.before in
          let end = forward d (suc n) p in
          let whole : part ≡ (r.before ++ replicate (suc n) d) ++ v ∷ rest =
          e ∙ whole_run xs d ys r ∙ ap (λ ds. r.before ++ (replicate (suc n) d ++ ds)) f ∙ sym (append_assoc r.before (replicate (suc n) d) (v ∷ rest)) in
          let there : after q (r.before ++ replicate (suc n) d) ≡ end = after-append q r.before (replicate (suc n) d) ∙ after-replicate p (suc n) d in
          let one : IsCoordinate (across (way_of v) end) = subst (λ x. IsCoordinate (across (way_of v) x)) there (across_in (r.before ++ replicate (suc n) d) v rest whole) in
          let other : IsCoordinate (across (way_of d) end) = subst IsCoordinate (sym (across-forward d (suc n) p)) (across_in r.before d (replicate n d ++ r.behind) (e ∙ whole_run xs d ys r)) in
          let split : part ≡ (r.before ++ replicate n d) ++ ((d ∷ v ∷ []) ++ rest) =
          e ∙ whole_run xs d ys r ∙ ap (λ ds. r.before ++ (replicate (suc n) d ++ ds)) f ∙ ap (λ ds. r.before ++ ds) (stretch_end n d (v ∷ rest)) ∙ sym (append_assoc r.before (replicate n d) (d ∷ v ∷ rest)) in
          let two = part_of_part floor.solids task t front (r.before ++ replicate n d) (d ∷ v ∷ []) rest back (subst (λ ds. IsPart floor.solids task t front ds back) split h) in
          two_coordinates d v end (no_doubling floor.solids task t first (front ++ (r.before ++ replicate n d)) (rest ++ back) d v two hv) other one)
    ]

    module _ (begin_anchor : Contains floor.anchors q) (end_anchor : Contains floor.anchors (after q part)) where
      -- each step of the part lies in a kept line
      pub kept_step : (xs : List Dir) (d : Dir) (ys : List Dir) → part ≡ xs ++ d ∷ ys → IsKeptStep floor (after q xs) d
      kept_step xs d ys e =
          let r = run_of xs d ys in
          let n = run_length r in
          let p = after q r.before in
          let l = run_line p d n in
          let whole : IsClear floor.solids None q (r.before ++ (replicate n d ++ r.behind)) = subst (IsClear floor.solids None q) (e ∙ whole_run xs d ys r) h.clear in
          let clear : IsClear floor.solids None p (replicate n d) = clear_front floor.solids None p (replicate n d) r.behind (clear_back floor.solids None q r.before (replicate n d ++ r.behind) whole) in
          let piece : IsFreePiece floor l = run_piece floor p d n (omega arith) clear (run_begin_in xs d ys e r) (run_end_in xs d ys e r) in
          let m = in_longest floor l piece in
          let hold : (k : ℕ) → k ≤ n → Holds m.line (forward d k p) = λ k g. holds_longer l m.line (forward d k p) m.whole m.from m.to (run_holds p d n k g) in
          record {
            line = m.line;
            kept = record {
              longest = m.longest;
              reason = elim (why xs d ys e r) as (λ _. ((m.line.lo <ℤ m.line.hi) × Any (λ s. SharesSide m.line s.rect) floor.solids) ⊎ Any (Holds m.line) floor.anchors) [
                | inl none ↦ inr (
                  begin_anchor.0,
                  q,
                  begin_anchor.1,
                  begin_anchor.2,
                  subst (Holds m.line) (forward-zero d p ∙ ap (after q) none) (hold 0 (omega arith)),
                )
                | inr (inl none) ↦ inr (
                  end_anchor.0,
                  after q part,
                  end_anchor.1,
                  end_anchor.2,
                  subst (Holds m.line) (sym (at_end xs d ys e r ∙ ap (after (forward d n p)) none)) (hold n (omega arith)),
                )
                | inr (inr side) ↦ inl (
                  omega (arith, ints, m.from, m.to, run_some p d n (omega arith)),
                  (side.0, side.1, side.2, side.3, side_longer l m.line side.1.rect m.whole m.from m.to side.4),
                )
              ];
            };
            way = m.whole.way ∙ run_way p d n;
            begin = subst (Holds m.line) (sym (at_begin xs d ys r)) (hold r.sooner (omega arith));
            end = subst (Holds m.line) (sym (ap (forward d 1) (at_begin xs d ys r) ∙ forward-forward d 1 r.sooner p)) (hold (r.sooner + 1) (omega arith));
          }
