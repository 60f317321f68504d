-- Between its ports a first walk lies in kept lines, and bends at crossings.
use Rattle.std.proofs.Common.{◌≡◌, ◌≢◌, ◌⊎◌, ℕ, suc, zero, ◌<◌, ℤ, Option, Some, None, List, [], ◌∷◌, ◌++◌, replicate, get_or, All, Contains, refl, sym, ap, subst, ◌∙◌, inl, inr, arith, append_assoc, append-nil}
use Rattle.std.specs.Prelude.{slice_get}
use Rattle.std.proofs.lemmas.Int.{ints}
use Rattle.std.proofs.lemmas.Option.{slice_get_within, slice_get-get_or}
use Rattle.std.proofs.lemmas.List.Elements.{All-get_or, All-contains, Contains-get_or}
use Rattle.plane_geom.specs.declared.point.Point.{Point}
use Rattle.plane_geom.specs.declared.point.Dir.{Dir}
use Rattle.plane_geom.specs.declared.point.Dir.TheVariants.{East, South, West, North}
use Rattle.plane_geom.specs.declared.point.Way.{Way}
use Rattle.plane_geom.specs.declared.point.Way.TheVariants.{Vertical, Horizontal}
use Rattle.plane_geom.specs.declared.floor.Line.{Line}
use Rattle.plane_geom.specs.declared.floor.Floor.{Floor}
use Rattle.plane_geom.specs.declared.rect.Rect.{Rect}
use Rattle.plane_geom.specs.declared.rect.Solid.{Solid}
use Rattle.plane_geom.specs.Point.{IsCoordinate, PointIsOnSheet, forward, opposite}
use Rattle.plane_geom.specs.Rect.{StepMeets, HasInside}
use Rattle.plane_geom.specs.Floor.{Holds, IsFreePiece, IsKept, IsCrossing, point_on}
use Rattle.plane_geom.specs.Along.{way_of}
use Rattle.plane_geom.proofs.Ways.{between_coordinates}
use Rattle.plane_geom.proofs.Pieces.{longest_apart}
use Rattle.plane_geom.proofs.LongestPiece.{in_longest, barred_meets}
use Rattle.walk_model.specs.declared.task.Choice.{Choice}
use Rattle.walk_model.specs.declared.task.Task.{Task}
use Rattle.walk_model.specs.Walk.{after}
use Rattle.walk_model.specs.Choice.{IsChoice, stub_length}
use Rattle.walk_model.specs.Cost.{turn}
use Rattle.walk_model.specs.Legal.{IsTask}
use Rattle.walk_model.specs.Floors.{IsFloorOf}
use Rattle.walk_model.specs.Order.{Triple, IsLegalTriple, IsFirst}
use Rattle.walk_model.proofs.CornerByCorner.Scan.{after-append}
use Rattle.walk_model.proofs.CornerByCorner.Bends.{stretch_end}
use Rattle.walk_laws.proofs.Steps.Clear.{IsClear, ComesBy, clear_back}
use Rattle.walk_laws.proofs.Replacing.Tours.{IsTour, stub, stub_back}
use Rattle.walk_laws.proofs.Replacing.Legs.{Leg, leg_of, leg_part, part_begin}
use Rattle.walk_laws.proofs.Steps.Turns.{one_or_two}
use Rattle.walk_laws.proofs.Replacing.InnerRuns.{same_or_not}
use Rattle.walk_laws.proofs.Replacing.HeldRuns.{tour_tip}
use Rattle.walk_laws.proofs.OnKeptLines.KeptSteps.{IsKeptStep, kept_step, holds_longer}

pub chosen : {A : Type 0} (P : A → Type 0) (xs : List A) (i : ℕ) (x : A) → slice_get xs i ≡ Some x → All P xs → P x
chosen P xs i x e all =
    let within = slice_get_within xs i x e in
    let same : get_or xs i x ≡ x = let both : Some (get_or xs i x) ≡ Some x = sym (slice_get-get_or xs i x within) ∙ e in cc in
    subst P same (All-get_or P xs i x within all)

-- the choices of a legal walk
pub chosen_start : (solids : List Solid) (task : Task) (t : Triple) → IsTask task → (l : IsLegalTriple solids task t) → IsChoice l.start
chosen_start solids task t h l = chosen IsChoice task.starts t.start l.start l.is_start h.starts.each

pub chosen_end : (solids : List Solid) (task : Task) (t : Triple) → IsTask task → (l : IsLegalTriple solids task t) → IsChoice l.end
chosen_end solids task t h l = chosen IsChoice task.ends t.end l.end l.is_end h.ends.each

-- each step from a point inside a solid meets the solid
inside_from : (r : Rect) (p : Point) (d : Dir) → HasInside r p → StepMeets r p d
inside_from r p East h = (h.y.0, h.y.1, omega (arith, ints, h.x.0), omega (arith, ints, h.x.1))
inside_from r p South h = (h.x.0, h.x.1, omega (arith, ints, h.y.0), omega (arith, ints, h.y.1))
inside_from r p West h = (h.y.0, h.y.1, omega (arith, ints, h.x.0), omega (arith, ints, h.x.1))
inside_from r p North h = (h.x.0, h.x.1, omega (arith, ints, h.y.0), omega (arith, ints, h.y.1))

-- the begin of a clear stretch lies inside no solid that is not to be met
stub_begins : (solids : List Solid) (may : Option ℤ) (p : Point) (d : Dir) (n : ℕ) → 0 < n → IsClear solids may p (replicate n d) → All (λ s. Some s.node ≢ may → HasInside s.rect p → ⊥) solids
stub_begins solids may p d zero some c = absurd (omega arith)
stub_begins solids may p d (suc n) some c = λ k s inside other h. c.0 k s inside other (inside_from (get_or solids k s).rect p d h)

-- steps that pass a checkpoint are at it after some of them
come_to : (p : Point) (ds : List Dir) (cs : List Point) (c : Point) → ComesBy p ds cs → Contains cs c → (xs : List Dir) × (ys : List Dir) × (ds ≡ xs ++ ys) × (after p xs ≡ c)
come_to p ds [] c h k = absurd (let l : k.0 < 0 = k.1 in omega arith)
come_to p ds (b ∷ cs) c (xs, ys, cut, there, rest) (zero, l, is) = (xs, ys, cut, there ∙ is)
come_to p ds (b ∷ cs) c (xs, ys, cut, there, rest) (suc k, l, is) =
    let more = come_to b ys cs c rest (k, omega (arith, l), is) in
    (xs ++ more.0, more.1, cut ∙ ap (λ zs. xs ++ zs) more.2 ∙ sym (append_assoc xs more.0 more.1), after-append p xs more.0 ∙ ap (λ q. after q more.0) there ∙ more.3)

-- an anchor that lies inside no solid is a crossing
point_piece : (floor : Floor) (p : Point) → PointIsOnSheet p → All (λ s. HasInside s.rect p → ⊥) floor.solids → (way : Way) → (l : Line) × IsFreePiece floor l × (l.way ≡ way) × Holds l p
point_piece floor p h out Vertical = (
  record { way = Vertical; at = p.x; lo = p.y; hi = p.y },
  record {
    at = h.x;
    lo = h.y;
    hi = h.y;
    ordered = omega (arith, ints);
    free = λ k s inside m.
        let b = barred_meets (get_or floor.solids k s).rect Vertical p.x p.y p.y (omega (arith, ints)) m in
        out k s inside (record { x = (b.0.low, b.0.high); y = (b.2, b.1) });
  },
  refl,
  record { along = p.y; from = omega (arith, ints); to = omega (arith, ints); here = refl },
)
point_piece floor p h out Horizontal = (
  record { way = Horizontal; at = p.y; lo = p.x; hi = p.x },
  record {
    at = h.y;
    lo = h.x;
    hi = h.x;
    ordered = omega (arith, ints);
    free = λ k s inside m.
        let b = barred_meets (get_or floor.solids k s).rect Horizontal p.y p.x p.x (omega (arith, ints)) m in
        out k s inside (record { x = (b.2, b.1); y = (b.0.low, b.0.high) });
  },
  refl,
  record { along = p.x; from = omega (arith, ints); to = omega (arith, ints); here = refl },
)

kept_through : (floor : Floor) (p : Point) → PointIsOnSheet p → Contains floor.anchors p → All (λ s. HasInside s.rect p → ⊥) floor.solids → (way : Way) → (l : Line) × IsKept floor l × (l.way ≡ way) × Holds l p
kept_through floor p h anchor out way =
    let piece = point_piece floor p h out way in
    let m = in_longest floor piece.0 piece.1 in
    let holds : Holds m.line p = holds_longer piece.0 m.line p m.whole m.from m.to piece.3 in
    (m.line, record { longest = m.longest; reason = inr (anchor.0, p, anchor.1, anchor.2, holds) }, m.whole.way ∙ piece.2, holds)

anchor_crossing : (floor : Floor) (p : Point) → PointIsOnSheet p → Contains floor.anchors p → All (λ s. HasInside s.rect p → ⊥) floor.solids → IsCrossing floor p
anchor_crossing floor p h anchor out =
    let v = kept_through floor p h anchor out Vertical in
    let w = kept_through floor p h anchor out Horizontal in
    record { vertical = v.0; horizontal = w.0; is_vertical = v.2; is_horizontal = w.2; vertical_kept = v.1; horizontal_kept = w.1; on_vertical = v.3; on_horizontal = w.3 }

-- the two ways at a turn
ways_differ : (d e : Dir) → turn d e ≡ 1 → ((way_of d ≡ Vertical) × (way_of e ≡ Horizontal)) ⊎ ((way_of d ≡ Horizontal) × (way_of e ≡ Vertical))
ways_differ East South h = inr (refl, refl)
ways_differ East North h = inr (refl, refl)
ways_differ West South h = inr (refl, refl)
ways_differ West North h = inr (refl, refl)
ways_differ South East h = inl (refl, refl)
ways_differ South West h = inl (refl, refl)
ways_differ North East h = inl (refl, refl)
ways_differ North West h = inl (refl, refl)
ways_differ _ _ h = absurd (omega (arith, h))

turn_crossing : (floor : Floor) (p : Point) (d e : Dir) → turn d e ≡ 1 → IsKeptStep floor p d → IsKeptStep floor (forward d 1 p) e → IsCrossing floor (forward d 1 p)
turn_crossing floor p d e h k m = elim (ways_differ d e h) as (λ _. IsCrossing floor (forward d 1 p)) [
  | inl w ↦ record { vertical = k.line; horizontal = m.line; is_vertical = k.way ∙ w.0; is_horizontal = m.way ∙ w.1; vertical_kept = k.kept; horizontal_kept = m.kept; on_vertical = k.end; on_horizontal = m.begin }
  | inr w ↦ record { vertical = m.line; horizontal = k.line; is_vertical = m.way ∙ w.1; is_horizontal = k.way ∙ w.0; vertical_kept = m.kept; horizontal_kept = k.kept; on_vertical = m.begin; on_horizontal = k.end }
]

-- a point determines the coordinate of a line of one way through it
place_across : (way : Way) (at at' z z' : ℤ) → point_on way at z ≡ point_on way at' z' → at ≡ at'
place_across Vertical at at' z z' e = ap (λ (p : Point). p.x) e
place_across Horizontal at at' z z' e = ap (λ (p : Point). p.y) e

-- two kept lines of one way through one point are one
pub one_line : (floor : Floor) (l m : Line) (p : Point) → IsKept floor l → IsKept floor m → l.way ≡ m.way → Holds l p → Holds m p → l ≡ m
one_line floor l m p k k' way h h' =
    longest_apart floor l m p k.longest k'.longest
    (record { way = way; at = place_across l.way l.at m.at h.along h'.along (sym h.here ∙ h'.here ∙ ap (λ (w : Way). point_on w m.at h'.along) (sym way)) }) h h'

-- a point of a kept line is on the sheet
on_piece_in : (way : Way) (at place : ℤ) → IsCoordinate at → IsCoordinate place → PointIsOnSheet (point_on way at place)
on_piece_in Vertical at place h k = record { x = h; y = k }
on_piece_in Horizontal at place h k = record { x = k; y = h }

held_in : (floor : Floor) (l : Line) (p : Point) → IsFreePiece floor l → Holds l p → PointIsOnSheet p
held_in floor l p f h = subst PointIsOnSheet (sym h.here) (on_piece_in l.way l.at h.along f.at (between_coordinates l.lo h.along l.hi f.lo f.hi h.from h.to))

module _ (floor : Floor) (task : Task) (t : Triple) (is_task : IsTask task) (on : IsFloorOf floor task) (first : IsFirst floor.solids task t) where
  abbrev pub s : Choice
  s = first.legal.start

  abbrev pub e : Choice
  e = first.legal.end

  abbrev solids : List Solid
  solids = floor.solids

  start_choice : IsChoice s
  start_choice = chosen_start solids task t is_task first.legal

  end_choice : IsChoice e
  end_choice = chosen_end solids task t is_task first.legal

  start_anchor : Contains floor.anchors s.port
  start_anchor = chosen (λ (c : Choice). Contains floor.anchors c.port) task.starts t.start s first.legal.is_start on.anchors.starts

  end_anchor : Contains floor.anchors e.port
  end_anchor = chosen (λ (c : Choice). Contains floor.anchors c.port) task.ends t.end e first.legal.is_end on.anchors.ends

  module _ (middle : List Dir) (tour : IsTour solids task.via s t.walk e middle) where
    -- the two ends of a leg are anchors of the sheet
    record Anchored (p : Point) : Type 0 where
      anchor : Contains floor.anchors p
      within : PointIsOnSheet p

    via_anchored : (p : Point) → Contains task.via p → Anchored p
    via_anchored p h = record { anchor = All-contains (Contains floor.anchors) task.via p on.anchors.via h; within = All-contains PointIsOnSheet task.via p is_task.via h }

    leg_begin_anchored : (xs : List Dir) (d : Dir) (ys : List Dir) (leg : Leg s.port task.via xs d ys) → Anchored (after s.port leg.front)
    leg_begin_anchored xs d ys leg = elim leg.begins as (λ _. Anchored (after s.port leg.front)) [
      | inl none ↦ subst (λ ds. Anchored (after s.port ds)) (sym none) (record { anchor = start_anchor; within = start_choice.port })
      | inr some ↦ via_anchored (after s.port leg.front) some
    ]

    leg_end_anchored : (xs : List Dir) (d : Dir) (ys : List Dir) → middle ≡ xs ++ d ∷ ys → (leg : Leg s.port task.via xs d ys) → Anchored (after (after s.port leg.front) (leg.before ++ d ∷ leg.behind))
    leg_end_anchored xs d ys cut leg = elim leg.ends as (λ _. Anchored (after (after s.port leg.front) (leg.before ++ d ∷ leg.behind))) [
      | inl none ↦ (
          let all : middle ≡ leg.front ++ (leg.before ++ d ∷ leg.behind) =
          cut ∙ ap (λ ds. ds ++ d ∷ ys) leg.first ∙ append_assoc leg.front leg.before (d ∷ ys) ∙ ap (λ ds. leg.front ++ (leg.before ++ d ∷ ds)) (leg.last ∙ ap (λ ds. leg.behind ++ ds) none ∙ append-nil leg.behind) in
          subst Anchored (sym tour.reaches ∙ ap (after s.port) all ∙ after-append s.port leg.front (leg.before ++ d ∷ leg.behind)) (record { anchor = end_anchor; within = end_choice.port }))
      | inr some ↦ via_anchored (after (after s.port leg.front) (leg.before ++ d ∷ leg.behind)) some
    ]

    -- each step between the ports lies in a kept line
    pub tour_step : (xs : List Dir) (d : Dir) (ys : List Dir) → middle ≡ xs ++ d ∷ ys → IsKeptStep floor (after s.port xs) d
    tour_step xs d ys cut =
        let leg = leg_of s.port task.via middle xs d ys tour.comes cut in
        let part = leg_part solids task t first.legal start_choice end_choice middle tour xs d ys cut leg in
        let from = part_begin solids task t first.legal start_choice end_choice middle tour leg.front in
        let begin = leg_begin_anchored xs d ys leg in
        let end = leg_end_anchored xs d ys cut leg in
        let step = kept_step floor task t first (stub s ++ leg.front) (leg.before ++ d ∷ leg.behind) (leg.back ++ stub_back e) part on.solids
        (subst PointIsOnSheet (sym from) begin.within) (subst (λ x. PointIsOnSheet (after x (leg.before ++ d ∷ leg.behind))) (sym from) end.within)
        (subst (Contains floor.anchors) (sym from) begin.anchor) (subst (λ x. Contains floor.anchors (after x (leg.before ++ d ∷ leg.behind))) (sym from) end.anchor)
        leg.before d leg.behind refl in
        subst (λ x. IsKeptStep floor x d) (ap (λ x. after x leg.before) from ∙ sym (after-append s.port leg.front leg.before) ∙ ap (after s.port) (sym leg.first)) step

    -- all points between the ports are on the sheet
    pub tour_in : (xs ys : List Dir) → middle ≡ xs ++ ys → PointIsOnSheet (after s.port xs)
    tour_in xs [] cut = subst PointIsOnSheet (sym tour.reaches ∙ ap (after s.port) (cut ∙ append-nil xs)) end_choice.port
    tour_in xs (d ∷ ys) cut = let step = tour_step xs d ys cut in held_in floor step.line (after s.port xs) step.kept.longest.piece step.begin

    -- and inside no solid
    pub tour_outside : (xs ys : List Dir) → middle ≡ xs ++ ys → All (λ (o : Solid). HasInside o.rect (after s.port xs) → ⊥) solids
    tour_outside xs [] cut =
        let own = chosen (λ (c : Choice). All (λ (o : Solid). o.node ≡ c.node → HasInside o.rect c.port → ⊥) solids) task.ends t.end e first.legal.is_end on.outside in
        subst (λ x. All (λ (o : Solid). HasInside o.rect x → ⊥) solids) (sym tour.reaches ∙ ap (after s.port) (cut ∙ append-nil xs)) (end_outside own)
      where
        -- the first step of the stub back leads out of the port
        end_outside : All (λ (o : Solid). o.node ≡ e.node → HasInside o.rect e.port → ⊥) solids → All (λ (o : Solid). HasInside o.rect e.port → ⊥) solids
        end_outside own k o inside m =
            let r = get_or solids k o in
            elim (same_or_not r.node e.node) as (λ _. ⊥) [
              | inl same ↦ own k o inside same m
              | inr other ↦ stub_begins solids (Some e.node) e.port (opposite e.dir) (stub_length e) end_choice.apart tour.end_stub k o inside (λ f. other (let g : r.node ≡ e.node = cc in g)) m
            ]
    tour_outside xs (d ∷ ys) cut = λ k o inside m.
        let rest : IsClear solids None (after s.port xs) (d ∷ ys) = clear_back solids None s.port xs (d ∷ ys) (subst (IsClear solids None s.port) cut tour.clear) in
        rest.0 k o inside (λ f. cc) (inside_from (get_or solids k o).rect (after s.port xs) d m)

    -- each turn between the ports is a crossing, and so is each doubling back
    pub corner_crossing : (xs : List Dir) (d f : Dir) (ys : List Dir) → middle ≡ xs ++ d ∷ f ∷ ys → 0 < turn d f → IsCrossing floor (after s.port (xs ++ d ∷ []))
    corner_crossing xs d f ys cut bend =
        let p = after s.port (xs ++ d ∷ []) in
        let next : middle ≡ (xs ++ d ∷ []) ++ f ∷ ys = cut ∙ sym (append_assoc xs (d ∷ []) (f ∷ ys)) in
        elim (one_or_two d f bend) as (λ _. IsCrossing floor p) [
          | inl cross ↦ (
              let there : p ≡ forward d 1 (after s.port xs) = after-append s.port xs (d ∷ []) in
              subst (IsCrossing floor) (sym there) (turn_crossing floor (after s.port xs) d f cross (tour_step xs d (f ∷ ys) cut)
              (subst (λ x. IsKeptStep floor x f) there (tour_step (xs ++ d ∷ []) f ys next))))
          | inr back ↦ (
              let here = via_anchored p (tour_tip solids task t first start_choice end_choice middle tour xs d f ys cut back) in
              anchor_crossing floor p here.within here.anchor (tour_outside (xs ++ d ∷ []) (f ∷ ys) next))
        ]

    -- the ports are crossings
    pub start_crossing : IsCrossing floor s.port
    start_crossing = anchor_crossing floor s.port start_choice.port start_anchor (tour_outside [] middle refl)

    pub end_crossing : IsCrossing floor e.port
    end_crossing = anchor_crossing floor e.port end_choice.port end_anchor (subst (λ x. All (λ (o : Solid). HasInside o.rect x → ⊥) solids) tour.reaches (tour_outside middle [] (sym (append-nil middle))))

    -- and so are the checkpoints
    pub via_crossing : All (IsCrossing floor) task.via
    via_crossing k c inside =
        let p = get_or task.via k c in
        let place = come_to s.port middle task.via p tour.comes (Contains-get_or task.via k c inside) in
        let here = via_anchored p (Contains-get_or task.via k c inside) in
        anchor_crossing floor p here.within here.anchor (subst (λ x. All (λ (o : Solid). HasInside o.rect x → ⊥) solids) place.3 (tour_outside place.0 place.1 place.2))

    -- equal steps lie in one kept line
    pub tour_stretch : (n : ℕ) (xs : List Dir) (d : Dir) (ys : List Dir) → middle ≡ xs ++ (replicate (suc n) d ++ ys) →
        (l : Line) × IsKept floor l × (l.way ≡ way_of d) × Holds l (after s.port xs) × Holds l (after s.port (xs ++ replicate (suc n) d))
    tour_stretch zero xs d ys cut =
        let step = tour_step xs d ys cut in
        (step.line, step.kept, step.way, step.begin, subst (Holds step.line) (sym (after-append s.port xs (d ∷ []))) step.end)
    tour_stretch (suc n) xs d ys cut =
        let m = replicate (suc n) d in
        let longer : replicate (suc (suc n)) d ++ ys ≡ m ++ (d ∷ ys) = stretch_end (suc n) d ys in
        let before = tour_stretch n xs d (d ∷ ys) (cut ∙ ap (λ ds. xs ++ ds) longer) in
        let step = tour_step (xs ++ m) d ys (cut ∙ ap (λ ds. xs ++ ds) longer ∙ sym (append_assoc xs m (d ∷ ys))) in
        let same : before.0 ≡ step.line = one_line floor before.0 step.line (after s.port (xs ++ m)) before.1 step.kept (before.2 ∙ sym step.way) before.4 step.begin in
        let end : forward d 1 (after s.port (xs ++ m)) ≡ after s.port (xs ++ replicate (suc (suc n)) d) =
        sym (after-append s.port (xs ++ m) (d ∷ [])) ∙ ap (after s.port) (append_assoc xs m (d ∷ []) ∙ ap (λ ds. xs ++ ds) (sym (stretch_end (suc n) d []) ∙ append-nil (replicate (suc (suc n)) d))) in
        (before.0, before.1, before.2, before.3, subst (λ l. Holds l (after s.port (xs ++ replicate (suc (suc n)) d))) (sym same) (subst (Holds step.line) end step.end))
