-- A first walk goes along a way: from crossing to crossing, each the nearest in its direction.
use Rattle.std.proofs.Common.{◌≡◌, ◌≢◌, ◌⊎◌, ℕ, suc, zero, ◌+◌, ◌-◌, ◌<◌, ◌≤◌, Some, List, [], ◌∷◌, ◌++◌, length, drop, replicate, refl, sym, ap, subst, ◌∙◌, inl, inr, arith, append_assoc, append-nil, length-append}
use Rattle.std.specs.Prelude.{slice_get}
use Rattle.std.proofs.lemmas.Bool.{cases_lt}
use Rattle.std.proofs.lemmas.List.{drop_all, length-replicate, replicate-append-replicate}
use Rattle.plane_geom.specs.declared.point.Point.{Point}
use Rattle.plane_geom.specs.declared.point.Dir.{Dir}
use Rattle.plane_geom.specs.declared.floor.Floor.{Floor}
use Rattle.plane_geom.specs.Floor.{IsCrossing}
use Rattle.plane_geom.specs.Point.{forward}
use Rattle.line_arena.specs.Arena.{Arena, IsArena, IsNearest, StandsAt}
use Rattle.line_arena.specs.Stands.{StandsFor}
use Rattle.line_arena.proofs.Arenas.ArenaLaws.{crossings_of_floor, one_point}
use Rattle.walk_model.specs.declared.task.Task.{Task}
use Rattle.walk_model.specs.Cost.{turn}
use Rattle.walk_model.specs.Floors.{IsFloorOf}
use Rattle.walk_model.specs.Legal.{IsTask}
use Rattle.walk_model.specs.Order.{IsFirst, Triple}
use Rattle.walk_model.specs.Walk.{after}
use Rattle.walk_model.proofs.CornerByCorner.Bends.{stretch_end}
use Rattle.walk_model.proofs.CornerByCorner.Scan.{after-append, after-replicate, forward-forward}
use Rattle.walk_laws.proofs.Steps.Clear.{ComesBy}
use Rattle.walk_laws.proofs.OnKeptLines.KeptSteps.{Run, run_of}
use Rattle.walk_laws.proofs.OnKeptLines.Lines.{chosen, chosen_end, chosen_start, corner_crossing, end_crossing, start_crossing, tour_stretch, via_crossing}
use Rattle.walk_laws.proofs.Replacing.Tours.{IsTour, stub, stub_back, tour_from_legal}
use Rattle.move_model.specs.declared.place.Place.{Place}
use Rattle.move_model.specs.Places.{IsMove}
use Rattle.move_model.specs.Ways.{GoesAlongWay, IsWay, Leg, steps_of_way, walk_along}
use Rattle.move_model.proofs.Moving.Crossings.{IsAlong, along_line, further_along}
use Rattle.move_model.proofs.Moving.Moves.{same_steps}
use Rattle.move_model.proofs.Moving.Nearest.{some_nearest}
use Rattle.move_model.proofs.Moving.Stages.{comes_without, next_left, none_left, some_stage}
use Rattle.move_model.proofs.Moving.Stubs.{free_stub, free_stub_back}

-- what begins with a stretch begins with the first part of it
split_stretch : (d : Dir) (n m : ℕ) (all ds : List Dir) → all ≡ replicate m d ++ ds → n ≤ m → all ≡ replicate n d ++ (replicate (m - n) d ++ ds)
split_stretch d n m all ds e h =
    let number : m ≡ n + (m - n) = omega (arith, h) in
    e ∙ ap (λ k. replicate k d ++ ds) number ∙ ap (λ es. es ++ ds) (sym (replicate-append-replicate n (m - n) d)) ∙ append_assoc (replicate n d) (replicate (m - n) d) ds

-- steps that begin a list which begins with a stretch are some of the stretch, or all of it and more
data Front (us vs : List Dir) (n : ℕ) (d : Dir) (more : List Dir) : Type 0 where
  shorter : (i : ℕ) → i < n → us ≡ replicate i d → Front us vs n d more
  longer : (ws : List Dir) → us ≡ replicate n d ++ ws → more ≡ ws ++ vs → Front us vs n d more

front_of : (us vs : List Dir) (n : ℕ) (d : Dir) (more : List Dir) → replicate n d ++ more ≡ us ++ vs → Front us vs n d more
front_of us vs zero d more e = longer us refl e
front_of [] vs (suc n) d more e = shorter 0 (omega arith) refl
front_of (u ∷ us) vs (suc n) d more e = with_first (front_of us vs n d more (let rest : replicate n d ++ more ≡ us ++ vs = cc in rest))
  where
    same : u ≡ d
    same = cc

    with_first : Front us vs n d more → Front (u ∷ us) vs (suc n) d more
    with_first (shorter i l f) = shorter (suc i) (omega (arith, l)) (ap (λ (x : Dir). x ∷ us) same ∙ ap (λ ds. d ∷ ds) f)
    with_first (longer ws f g) = longer ws (ap (λ (x : Dir). x ∷ us) same ∙ ap (λ ds. d ∷ ds) f) g

module _ (floor : Floor) (a : Arena) (arena : IsArena a) (stands : StandsFor floor a) (task : Task) (t : Triple) (is_task : IsTask task) (on_floor : IsFloorOf floor task) (first : IsFirst floor.solids task t)
    (middle : List Dir) (tour : IsTour floor.solids task.via first.legal.start t.walk first.legal.end middle) where
  abbrev port : Point
  port = first.legal.start.port

  crossing : (p : Point) → IsCrossing floor p → (c : ℕ) × StandsAt a c p
  crossing p h = (crossings_of_floor floor a arena stands p).0 h

  -- the walk stands at a place after some steps between its ports
  record IsOn (xs rest : List Dir) (x : Place) : Type 0 where
    cut : middle ≡ xs ++ rest
    here : StandsAt a x.crossing (after port xs)
    within : x.stage ≤ length task.via
    no_more : slice_get task.via x.stage ≢ Some (after port xs)
    comes : ComesBy (after port xs) rest (drop x.stage task.via)

  -- equal steps lead along one kept line
  along : (n : ℕ) (xs : List Dir) (d : Dir) (ys : List Dir) → 0 < n → middle ≡ xs ++ (replicate n d ++ ys) → IsAlong floor (after port xs) d n (after port (xs ++ replicate n d))
  along zero xs d ys some cut = absurd (omega (arith, some))
  along (suc n) xs d ys some cut =
      let l = tour_stretch floor task t is_task on_floor first middle tour n xs d ys cut in
      record { line = l.0; kept = l.1; way = l.2; begin = l.3; end = l.4; some = some; straight = after-append port xs (replicate (suc n) d) ∙ after-replicate (after port xs) (suc n) d }

  -- a longest stretch ends at a crossing
  far_end : (xs : List Dir) (d : Dir) (later : ℕ) (behind : List Dir) → middle ≡ xs ++ (replicate (suc later) d ++ behind) →
      (behind ≡ []) ⊎ ((v : Dir) × (rest : List Dir) × (behind ≡ v ∷ rest) × (0 < turn d v)) → IsCrossing floor (after port (xs ++ replicate (suc later) d))
  far_end xs d later behind cut (inl none) =
      let all : middle ≡ xs ++ replicate (suc later) d = cut ∙ ap (λ ds. xs ++ (replicate (suc later) d ++ ds)) none ∙ ap (λ ds. xs ++ ds) (append-nil (replicate (suc later) d)) in
      subst (IsCrossing floor) (sym tour.reaches ∙ ap (after port) all) (end_crossing floor task t is_task on_floor first middle tour)
  far_end xs d later behind cut (inr (v, rest, is, turns)) =
      let last : middle ≡ (xs ++ replicate later d) ++ (d ∷ v ∷ rest) =
      cut ∙ ap (λ ds. xs ++ ds) (stretch_end later d behind ∙ ap (λ ds. replicate later d ++ (d ∷ ds)) is) ∙ sym (append_assoc xs (replicate later d) (d ∷ v ∷ rest)) in
      let there : (xs ++ replicate later d) ++ (d ∷ []) ≡ xs ++ replicate (suc later) d =
      append_assoc xs (replicate later d) (d ∷ []) ∙ ap (λ ds. xs ++ ds) (sym (stretch_end later d []) ∙ append-nil (replicate (suc later) d)) in
      subst (IsCrossing floor) (ap (after port) there) (corner_crossing floor task t is_task on_floor first middle tour (xs ++ replicate later d) d v rest last turns)

  -- no crossing lies on the way to the nearest one
  module _ (xs : List Dir) (d : Dir) (b y : ℕ) (at_b : StandsAt a b (after port xs)) (near : IsNearest a d b y) (n : ℕ) (z : Point) (at_y : StandsAt a y z) (straight : z ≡ forward d n (after port xs)) where
    abbrev p : Point
    p = after port xs

    -- what stands at a point of the line stands at the nearest crossing or further on
    not_before : (c : ℕ) (m : ℕ) (q : Point) → StandsAt a c q → IsAlong floor p d m q → n ≤ m
    not_before c m q at_c l = elim (near.others c (further_along a arena floor stands d b c p q m l at_b at_c)) as (λ _. n ≤ m) [
      | inl same ↦ (
          let points : z ≡ q = one_point a c z q arena (subst (λ k. StandsAt a k z) (sym same) at_y) at_c in
          let e : n ≡ m = same_steps d n m p (sym straight ∙ points ∙ l.straight) in
          omega (arith, e))
      | inr past ↦ (
          let on = along_line a arena floor stands d y c z q past at_y at_c in
          let whole : forward d (n + on.0) p ≡ forward d m p = sym (forward-forward d on.0 n p) ∙ ap (forward d on.0) (sym straight) ∙ sym on.1.straight ∙ l.straight in
          let e : n + on.0 ≡ m = same_steps d (n + on.0) m p whole in
          omega (arith, e))
    ]

    -- so none of the checkpoints that are left stands on the way
    carried : (more : List Dir) (stage : ℕ) → middle ≡ xs ++ (replicate n d ++ more) → slice_get task.via stage ≢ Some p →
        ComesBy p (replicate n d ++ more) (drop stage task.via) → ComesBy z more (drop stage task.via)
    carried more stage cut other comes = elim (cases_lt stage (length task.via)) as (λ _. ComesBy z more (drop stage task.via)) [
      | inl less ↦ (
          let next = next_left task.via stage p less in
          let h = subst (ComesBy p (replicate n d ++ more)) next.2 comes in
          subst (ComesBy z more) (sym next.2) (behind next.0 next.1 (drop (stage + 1) task.via) h.0 h.1 h.3 h.4 (front_of h.0 h.1 n d more h.2)))
      | inr past ↦ subst (ComesBy z more) (sym (drop_all stage task.via past)) tt
    ]
      where
        sooner : (c : Point) → slice_get task.via stage ≡ Some c → (us : List Dir) (i : ℕ) → i < n → us ≡ replicate i d → after p us ≡ c → ⊥
        sooner c is us zero l e there = other (is ∙ ap Some (sym there ∙ ap (after p) e))
        sooner c is us (suc i) l e there =
            let cut' : middle ≡ xs ++ (replicate (suc i) d ++ (replicate (n - suc i) d ++ more)) = cut ∙ ap (λ ds. xs ++ ds) (split_stretch d (suc i) n (replicate n d ++ more) more refl (omega (arith, l))) in
            let line = along (suc i) xs d (replicate (n - suc i) d ++ more) (omega arith) cut' in
            let at : after port (xs ++ replicate (suc i) d) ≡ c = after-append port xs (replicate (suc i) d) ∙ ap (after p) (sym e) ∙ there in
            let found = crossing c (chosen (IsCrossing floor) task.via stage c is (via_crossing floor task t is_task on_floor first middle tour)) in
            let far = not_before found.0 (suc i) c found.1 (subst (IsAlong floor p d (suc i)) at line) in
            omega (arith, far, l)

        behind : (c : Point) → slice_get task.via stage ≡ Some c → (cs : List Point) (us vs : List Dir) → after p us ≡ c → ComesBy c vs cs → Front us vs n d more → ComesBy z more (c ∷ cs)
        behind c is cs us vs there rest (shorter i l e) = absurd (sooner c is us i l e there)
        behind c is cs us vs there rest (longer ws e f) =
            let at : after z ws ≡ c = ap (λ q. after q ws) (straight ∙ sym (after-replicate p n d)) ∙ sym (after-append p (replicate n d) ws) ∙ ap (after p) (sym e) ∙ there in
            (ws, vs, f, at, rest)

  -- the nearest crossing on the way of the next steps
  record Reached (xs rest : List Dir) (d : Dir) (from : ℕ) : Type 0 where
    to : ℕ
    near : IsNearest a d from to
    point : Point
    there : StandsAt a to point
    steps : ℕ
    line : IsAlong floor (after port xs) d steps point
    more : List Dir
    begins : rest ≡ replicate steps d ++ more

  reach : (xs : List Dir) (d : Dir) (ys : List Dir) (x : Place) → IsOn xs (d ∷ ys) x → Reached xs (d ∷ ys) d x.crossing
  reach xs d ys x o = by_run (run_of xs d ys)
    where
      p : Point
      p = after port xs

      by_run : Run xs d ys → Reached xs (d ∷ ys) d x.crossing
      by_run r =
          let m = suc r.later in
          let all : d ∷ ys ≡ replicate m d ++ r.behind = ap (λ ds. d ∷ ds) r.right in
          let cut : middle ≡ xs ++ (replicate m d ++ r.behind) = o.cut ∙ ap (λ ds. xs ++ ds) all in
          let q = after port (xs ++ replicate m d) in
          let line = along m xs d r.behind (omega arith) cut in
          let far = crossing q (far_end xs d r.later r.behind cut r.ends) in
          let near = some_nearest a arena d x.crossing far.0 (further_along a arena floor stands d x.crossing far.0 p q m line o.here far.1) in
          let z = near.1.lies.stop in
          let way = along_line a arena floor stands d x.crossing near.0 p z near.1.lies o.here near.1.lies.stands_there in
          let upto : way.0 ≤ m = not_before xs d x.crossing near.0 o.here near.1 way.0 z near.1.lies.stands_there way.1.straight far.0 m q far.1 line in
          record {
            to = near.0;
            near = near.1;
            point = z;
            there = near.1.lies.stands_there;
            steps = way.0;
            line = way.1;
            more = replicate (m - way.0) d ++ r.behind;
            begins = split_stretch d way.0 m (d ∷ ys) r.behind all upto;
          }

  -- a move along the next steps
  record Next (xs rest : List Dir) (x : Place) : Type 0 where
    steps : ℕ
    to : Place
    more : List Dir
    begins : rest ≡ replicate steps to.heading ++ more
    some : 0 < steps
    move : IsMove a task.via x steps to
    on : IsOn (xs ++ replicate steps to.heading) more to

  next : (xs rest : List Dir) (d : Dir) (x : Place) → IsOn xs rest x → Reached xs rest d x.crossing → Next xs rest x
  next xs rest d x o r =
      let p = after port xs in
      let n = r.steps in
      let z = r.point in
      let cut : middle ≡ xs ++ (replicate n d ++ r.more) = o.cut ∙ ap (λ ds. xs ++ ds) r.begins in
      let there : z ≡ after port (xs ++ replicate n d) = r.line.straight ∙ sym (after-replicate p n d) ∙ sym (after-append port xs (replicate n d)) in
      let stage = some_stage task.via x.stage z o.within in
      let comes : ComesBy p (replicate n d ++ r.more) (drop x.stage task.via) = subst (λ ds. ComesBy p ds (drop x.stage task.via)) r.begins o.comes in
      let left : ComesBy z r.more (drop x.stage task.via) = carried xs d x.crossing r.to o.here r.near n z r.there r.line.straight r.more x.stage cut o.no_more comes in
      record {
        steps = n;
        to = record { crossing = r.to; stage = stage.0; heading = d };
        more = r.more;
        begins = r.begins;
        some = r.line.some;
        move = record { begin = p; end = z; here = o.here; there = r.there; next = r.near; straight = r.line.straight; some = r.line.some; stage = stage.1 };
        on = record {
          cut = cut ∙ sym (append_assoc xs (replicate n d) r.more);
          here = subst (StandsAt a r.to) there r.there;
          within = stage.1.within;
          no_more = subst (λ k. slice_get task.via stage.0 ≢ Some k) there stage.1.no_more;
          comes = subst (λ k. ComesBy k r.more (drop stage.0 task.via)) there (comes_without task.via z r.more x.stage stage.0 stage.1 left);
        };
      }

  -- the steps that are left are those of a way
  way_on : (fuel : ℕ) (xs rest : List Dir) (x : Place) → length rest ≤ fuel → IsOn xs rest x →
      (ls : List Leg) × IsWay floor.solids a task.via x ls first.legal.end × (steps_of_way ls first.legal.end ≡ rest ++ stub_back first.legal.end)
  way_on fuel xs [] x few o =
      let e = first.legal.end in
      let at : after port xs ≡ e.port = ap (after port) (sym (o.cut ∙ append-nil xs)) ∙ tour.reaches in (
        [],
        record {
          free = free_stub_back floor.solids e (chosen_end floor.solids task t is_task first.legal) tour.end_stub;
          here = subst (StandsAt a x.crossing) at o.here;
          stage = none_left task.via x.stage (after port xs) o.within o.no_more o.comes;
        },
        refl,
      )
  way_on zero xs (d ∷ ys) x few o = absurd (omega (arith, few))
  way_on (suc fuel) xs (d ∷ ys) x few o =
      let s = next xs (d ∷ ys) d x o (reach xs d ys x o) in
      let run = replicate s.steps s.to.heading in
      let long : length (d ∷ ys) ≡ s.steps + length s.more = ap length s.begins ∙ length-append run s.more ∙ ap (λ k. k + length s.more) (length-replicate s.steps s.to.heading) in
      let rest = way_on fuel (xs ++ run) s.more s.to (omega (arith, few, long, s.some)) s.on in (
        record { steps = s.steps; to = s.to } ∷ rest.0,
        (s.move, rest.1),
        ap (λ ds. run ++ ds) rest.2 ∙ sym (append_assoc run s.more (stub_back first.legal.end)) ∙ ap (λ ds. ds ++ stub_back first.legal.end) (sym s.begins),
      )

  whole_way : GoesAlongWay floor.solids a task t
  whole_way =
      let s = first.legal.start in
      let e = first.legal.end in
      let stage = some_stage task.via 0 port (omega arith) in
      let start = crossing port (start_crossing floor task t is_task on_floor first middle tour) in
      let x : Place = record { crossing = start.0; stage = stage.0; heading = s.dir } in
      let on : IsOn [] middle x = record {
        cut = refl;
        here = start.1;
        within = stage.1.within;
        no_more = stage.1.no_more;
        comes = comes_without task.via port middle 0 stage.0 stage.1 tour.comes;
      } in
      let way = way_on (length middle) [] middle x (omega arith) on in
      let steps : t.walk.steps ≡ (walk_along s way.0 e).steps = tour.steps ∙ ap (λ ds. stub s ++ ds) (sym way.2) in
      record {
        start = s;
        end = e;
        is_start = first.legal.is_start;
        is_end = first.legal.is_end;
        entry = x;
        legs = way.0;
        enters = record { free = free_stub floor.solids s (chosen_start floor.solids task t is_task first.legal) tour.start_stub; here = start.1; heading = refl; stage = stage.1 };
        way = way.1;
        walk = λ i. record { start = tour.start i; steps = steps i };
      }

-- a first walk goes along a way
pub first_is_way : (floor : Floor) (a : Arena) (task : Task) (t : Triple) → IsArena a → StandsFor floor a → IsTask task → IsFloorOf floor task → IsFirst floor.solids task t → GoesAlongWay floor.solids a task t
first_is_way floor a task t arena stands is_task on first =
    let tour = tour_from_legal floor.solids task.via first.legal.start t.walk first.legal.end (chosen_start floor.solids task t is_task first.legal) (chosen_end floor.solids task t is_task first.legal) first.legal.legal in
    whole_way floor a arena stands task t is_task on first tour.0 tour.1
