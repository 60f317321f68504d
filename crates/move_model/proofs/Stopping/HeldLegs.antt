-- A first walk by its legs: the numbers of its steps, and to which side straight legs between two bends are held.
use Rattle.std.proofs.Common.{◌≡◌, ◌≢◌, ℕ, suc, zero, ◌+◌, ◌-◌, ◌<◌, ◌≤◌, Option, Some, List, [], ◌∷◌, ◌++◌, Contains, length, take, drop, replicate, refl, sym, ap, subst, ◌∙◌, arith, append_assoc, append-nil, length-append}
use Rattle.std.proofs.lemmas.List.{drop_at, length-replicate, take_at}
use Rattle.plane_geom.specs.declared.point.Point.{Point}
use Rattle.plane_geom.specs.declared.point.Dir.{Dir}
use Rattle.plane_geom.specs.declared.rect.Solid.{Solid}
use Rattle.plane_geom.specs.Point.{distance, forward, opposite}
use Rattle.line_arena.specs.Arena.{Arena, IsArena, StandsAt}
use Rattle.line_arena.proofs.Arenas.ArenaLaws.{one_point}
use Rattle.walk_model.specs.declared.task.Choice.{Choice}
use Rattle.walk_model.specs.declared.task.Task.{Task}
use Rattle.walk_model.specs.Choice.{IsChoice, stub_length}
use Rattle.walk_model.specs.Cost.{turn}
use Rattle.walk_model.specs.Legal.{IsTask}
use Rattle.walk_model.specs.Order.{IsFirst, Triple}
use Rattle.walk_model.specs.Walk.{Walk, after, point_at, step_at}
use Rattle.walk_model.proofs.CornerByCorner.Bends.{stretch_end}
use Rattle.walk_model.proofs.CornerByCorner.Scan.{after-append, after-replicate}
use Rattle.walk_laws.specs.Lines.{run_line}
use Rattle.walk_laws.specs.Sides.{IsHeldTo, held_to}
use Rattle.walk_laws.proofs.Steps.Clear.{point_after, step_after}
use Rattle.walk_laws.proofs.OnKeptLines.FirstWalks.{doublings_back, runs_held}
use Rattle.walk_laws.proofs.OnKeptLines.Lines.{chosen}
use Rattle.walk_laws.proofs.Replacing.Tours.{stub, to_port}
use Rattle.move_model.specs.declared.place.Place.{Place}
use Rattle.move_model.specs.Ways.{GoesAlongWay, HasRest, Leads, Leg, steps_along, steps_of_way}
use Rattle.move_model.specs.Stations.{AreStraightLegs}
use Rattle.move_model.proofs.GoingOn.Joined.{steps_behind, way_cut}
use Rattle.move_model.proofs.GoingOn.Rests.{rest_way}
use Rattle.move_model.proofs.Moving.Moves.{apart}
use Rattle.move_model.proofs.Stopping.StraightLegs.{straight_lies}

-- steps that begin with some equal ones begin with one
pub stretch_begins : (n : ℕ) (d : Dir) (ds : List Dir) → 0 < n → (more : List Dir) × (replicate n d ++ ds ≡ d ∷ more)
stretch_begins zero d ds some = absurd (omega (arith, some))
stretch_begins (suc n) d ds some = (replicate n d ++ ds, refl)

-- and end with one
pub stretch_stops : (n : ℕ) (d : Dir) → 0 < n → (less : List Dir) × (replicate n d ≡ less ++ d ∷ [])
stretch_stops zero d some = absurd (omega (arith, some))
stretch_stops (suc n) d some = (replicate n d, sym (append-nil (replicate (suc n) d)) ∙ stretch_end n d [])

-- a way has the steps of the stub at its end, at least
pub stub_within : (ls : List Leg) (e : Choice) → stub_length e ≤ length (steps_of_way ls e)
stub_within [] e = omega (arith, length-replicate (stub_length e) (opposite e.dir))
stub_within (l ∷ ls) e = omega (arith, stub_within ls e, length-append (replicate l.steps l.to.heading) (steps_of_way ls e))

module _ (a : Arena) (arena : IsArena a) (via : List Point) where
  -- the steps of legs lead from their beginning to their end
  pub legs_reach : (x y : Place) (p q : Point) (ls : List Leg) → Leads a via x ls y → StandsAt a x.crossing p → StandsAt a y.crossing q → after p (steps_along ls) ≡ q
  legs_reach x y p q [] h at_p at_q = one_point a y.crossing p q arena (subst (λ (z : Place). StandsAt a z.crossing p) h at_p) at_q
  legs_reach x y p q (l ∷ ls) h at_p at_q =
      let begin : h.0.begin ≡ p = one_point a x.crossing h.0.begin p arena h.0.here at_p in
      let there : after p (replicate l.steps l.to.heading) ≡ h.0.end = after-replicate p l.steps l.to.heading ∙ ap (forward l.to.heading l.steps) (sym begin) ∙ sym h.0.straight in
      after-append p (replicate l.steps l.to.heading) (steps_along ls) ∙ ap (λ r. after r (steps_along ls)) there ∙ legs_reach l.to y h.0.end q ls h.1 h.0.there at_q

  -- and end with a step in the heading of their end
  pub legs_stop : (x y : Place) (ls : List Leg) → Leads a via x ls y → ls ≢ [] → (less : List Dir) × (steps_along ls ≡ less ++ y.heading ∷ [])
  legs_stop x y [] h some = absurd (some refl)
  legs_stop x y (l ∷ []) h some =
      let s = stretch_stops l.steps l.to.heading h.0.some in
      (s.0, append-nil (replicate l.steps l.to.heading) ∙ s.1 ∙ ap (λ (z : Place). s.0 ++ z.heading ∷ []) h.1)
  legs_stop x y (l ∷ m ∷ ms) h some =
      let rest = legs_stop l.to y (m ∷ ms) h.1 (λ e. cc) in
      let run = replicate l.steps l.to.heading in
      (run ++ rest.0, ap (λ ds. run ++ ds) rest.1 ∙ sym (append_assoc run rest.0 (y.heading ∷ [])))

same_choice : (c e : Choice) → ◌≡◌ {A = Option Choice} (Some c) (Some e) → c ≡ e
same_choice c e same = cc

module _ (solids : List Solid) (a : Arena) (arena : IsArena a) (task : Task) (t : Triple) (is_task : IsTask task) (along : GoesAlongWay solids a task t) where
  -- the steps of the walk up to a place on its way, and those from there on
  pub cut_at_rest : (y : Place) (q : Point) (rest : List Leg) → (h : HasRest solids a task t along y q rest) → t.walk.steps ≡ (stub along.start ++ steps_along h.front) ++ steps_of_way rest along.end
  cut_at_rest y q rest h =
      ap (λ (w : Walk). w.steps) along.walk
      ∙ ap (λ ls. stub along.start ++ steps_of_way ls along.end) h.legs
      ∙ ap (λ ds. stub along.start ++ ds) (steps_behind h.front rest along.end)
      ∙ sym (append_assoc (stub along.start) (steps_along h.front) (steps_of_way rest along.end))

  -- and where those up to it lead
  pub reach_rest : (y : Place) (q : Point) (rest : List Leg) → (h : HasRest solids a task t along y q rest) → after t.walk.start (stub along.start ++ steps_along h.front) ≡ q
  reach_rest y q rest h =
      let hs = chosen IsChoice task.starts t.start along.start along.is_start is_task.starts.each in
      let port : after t.walk.start (stub along.start) ≡ along.start.port = ap (λ (w : Walk). after w.start (stub along.start)) along.walk ∙ to_port along.start hs in
      after-append t.walk.start (stub along.start) (steps_along h.front)
      ∙ ap (λ r. after r (steps_along h.front)) port
      ∙ legs_reach a arena task.via along.entry y along.start.port q h.front h.leads along.enters.here h.here

  -- the number of the walk's point at the place
  pub number_of_rest : (y : Place) (q : Point) (rest : List Leg) → (h : HasRest solids a task t along y q rest) → length (stub along.start ++ steps_along h.front) ≡ stub_length along.start + length (steps_along h.front)
  number_of_rest y q rest h = omega (arith, length-append (stub along.start) (steps_along h.front), length-replicate (stub_length along.start) along.start.dir)

  pub point_of_rest : (y : Place) (q : Point) (rest : List Leg) → (h : HasRest solids a task t along y q rest) → point_at t.walk (stub_length along.start + length (steps_along h.front)) ≡ q
  point_of_rest y q rest h =
      ap (point_at t.walk) (sym (number_of_rest y q rest h))
      ∙ point_after t.walk (stub along.start ++ steps_along h.front) (steps_of_way rest along.end) (cut_at_rest y q rest h)
      ∙ reach_rest y q rest h

  pub steps_of_rest : (y : Place) (q : Point) (rest : List Leg) → (h : HasRest solids a task t along y q rest) → drop (stub_length along.start + length (steps_along h.front)) t.walk.steps ≡ steps_of_way rest along.end
  steps_of_rest y q rest h =
      ap (drop (stub_length along.start + length (steps_along h.front))) (cut_at_rest y q rest h)
      ∙ drop_at (stub along.start ++ steps_along h.front) (steps_of_way rest along.end) (stub_length along.start + length (steps_along h.front)) (number_of_rest y q rest h)

  pub within_rest : (y : Place) (q : Point) (rest : List Leg) → (h : HasRest solids a task t along y q rest) → stub_length along.start + length (steps_along h.front) + stub_length along.end ≤ length t.walk.steps
  within_rest y q rest h =
      omega (arith, number_of_rest y q rest h, stub_within rest along.end, ap length (cut_at_rest y q rest h), length-append (stub along.start ++ steps_along h.front) (steps_of_way rest along.end))

  -- where the way of a first walk doubles back, there is a checkpoint
  pub doubles_at : IsFirst solids task t → (x : Place) (p : Point) (m : Leg) (back : List Leg) → (h : HasRest solids a task t along x p (m ∷ back)) → h.front ≢ [] → turn x.heading m.to.heading ≡ 2 → Contains task.via p
  doubles_at first x p m back h behind_port doubled =
      let s = stub along.start in
      let w = t.walk in
      let stop = legs_stop a arena task.via along.entry x h.front h.leads behind_port in
      let way = rest_way solids a task t along x p (m ∷ back) h in
      let some = way.0.some in
      let begin = stretch_begins m.steps m.to.heading (steps_of_way back along.end) some in
      let u = x.heading in
      let before = s ++ stop.0 in
      let k = length before in
      let front : s ++ steps_along h.front ≡ before ++ u ∷ [] = ap (λ ds. s ++ ds) stop.1 ∙ sym (append_assoc s stop.0 (u ∷ [])) in
      let next : w.steps ≡ (before ++ u ∷ []) ++ m.to.heading ∷ begin.0 = cut_at_rest x p (m ∷ back) h ∙ ap (λ ds. ds ++ steps_of_way (m ∷ back) along.end) front ∙ ap (λ ds. (before ++ u ∷ []) ++ ds) begin.1 in
      let cut : w.steps ≡ before ++ u ∷ m.to.heading ∷ begin.0 = next ∙ append_assoc before (u ∷ []) (m.to.heading ∷ begin.0) in
      let one : length (before ++ u ∷ []) ≡ k + 1 = omega (arith, length-append before (u ∷ [])) in
      let first_step : step_at w k ≡ u = step_after w before u (m.to.heading ∷ begin.0) cut in
      let last_step : step_at w (k + 1) ≡ m.to.heading = ap (step_at w) (sym one) ∙ step_after w (before ++ u ∷ []) m.to.heading begin.0 next in
      let here : point_at w (k + 1) ≡ p = ap (point_at w) (sym one) ∙ point_after w (before ++ u ∷ []) (m.to.heading ∷ begin.0) next ∙ ap (after w.start) (sym front) ∙ reach_rest x p (m ∷ back) h in
      let start : along.start ≡ first.legal.start = same_choice along.start first.legal.start (sym along.is_start ∙ first.legal.is_start) in
      let end : along.end ≡ first.legal.end = same_choice along.end first.legal.end (sym along.is_end ∙ first.legal.is_end) in
      let left : stub_length along.end ≤ length begin.0 = omega (arith, stub_within back along.end, ap length begin.1, length-append (replicate m.steps m.to.heading) (steps_of_way back along.end), length-replicate m.steps m.to.heading, some) in
      let long : length w.steps ≡ k + 1 + (1 + length begin.0) = omega (arith, ap length next, length-append (before ++ u ∷ []) (m.to.heading ∷ begin.0), one) in
      let low : stub_length first.legal.start ≤ k = omega (arith, length-append s stop.0, length-replicate (stub_length along.start) along.start.dir, ap stub_length start) in
      let high : k + 1 < length w.steps - stub_length first.legal.end = omega (arith, left, ap stub_length end, long) in
      subst (Contains task.via) here (doublings_back solids task t is_task first k low high (ap (λ (e : Dir). turn e (step_at w (k + 1))) first_step ∙ ap (turn u) last_step ∙ doubled))

  module _ (first : IsFirst solids task t) (x y : Place) (p q : Point) (d : Dir) (l : Leg) (ls : List Leg) (m : Leg) (back : List Leg) (h : HasRest solids a task t along x p ((l ∷ ls) ++ (m ∷ back)))
      (behind_port : h.front ≢ []) (leads : Leads a task.via x (l ∷ ls) y) (straight : AreStraightLegs d (l ∷ ls)) (at_q : StandsAt a y.crossing q) (turned : 0 < turn x.heading d) (turns : 0 < turn d m.to.heading) where
    abbrev w : Walk
    w = t.walk

    abbrev n : ℕ
    n = distance p q

    abbrev u : Dir
    u = x.heading

    abbrev v : Dir
    v = m.to.heading

    -- the steps of the run, one step before it and one after it
    record Around : Type 0 where
      before : List Dir
      behind : List Dir
      cut : w.steps ≡ before ++ u ∷ (replicate n d ++ v ∷ behind)
      some : 0 < n
      place : after w.start (before ++ u ∷ []) ≡ p
      starts : stub_length along.start ≤ length before
      ends : stub_length along.end ≤ length behind

    around : Around
    around =
        let s = stub along.start in
        let lies = straight_lies a arena d task.via x l ls y p q leads straight h.here at_q in
        let stop = legs_stop a arena task.via along.entry x h.front h.leads behind_port in
        let way = way_cut solids a task.via x y (l ∷ ls) (m ∷ back) along.end (rest_way solids a task t along x p ((l ∷ ls) ++ (m ∷ back)) h) leads in
        let begin = stretch_begins m.steps v (steps_of_way back along.end) way.0.some in
        let front : s ++ steps_along h.front ≡ (s ++ stop.0) ++ u ∷ [] = ap (λ ds. s ++ ds) stop.1 ∙ sym (append_assoc s stop.0 (u ∷ [])) in
        let rest : steps_of_way ((l ∷ ls) ++ (m ∷ back)) along.end ≡ replicate n d ++ v ∷ begin.0 =
        steps_behind (l ∷ ls) (m ∷ back) along.end ∙ ap (λ ds. ds ++ steps_of_way (m ∷ back) along.end) lies.1 ∙ ap (λ ds. replicate n d ++ ds) begin.1 in
        let some = way.0.some in
        record {
          before = s ++ stop.0;
          behind = begin.0;
          cut = cut_at_rest x p ((l ∷ ls) ++ (m ∷ back)) h ∙ ap (λ ds. ds ++ steps_of_way ((l ∷ ls) ++ (m ∷ back)) along.end) front
              ∙ append_assoc (s ++ stop.0) (u ∷ []) (steps_of_way ((l ∷ ls) ++ (m ∷ back)) along.end) ∙ ap (λ ds. (s ++ stop.0) ++ u ∷ ds) rest;
          some = (apart a d x.crossing y.crossing p q arena lies.0 h.here at_q).0;
          place = ap (after w.start) (sym front) ∙ reach_rest x p ((l ∷ ls) ++ (m ∷ back)) h;
          starts = omega (arith, length-append s stop.0, length-replicate (stub_length along.start) along.start.dir);
          ends = omega (arith, stub_within back along.end, ap length begin.1, length-append (replicate m.steps v) (steps_of_way back along.end), length-replicate m.steps v, some);
        }

    pub held_legs : IsHeldTo solids task.via (held_to x.heading m.to.heading) (run_line p d (distance p q))
    held_legs =
        let r = around in
        let k = length r.before in
        let start : along.start ≡ first.legal.start = same_choice along.start first.legal.start (sym along.is_start ∙ first.legal.is_start) in
        let end : along.end ≡ first.legal.end = same_choice along.end first.legal.end (sym along.is_end ∙ first.legal.is_end) in
        let run = replicate n d in
        let next : w.steps ≡ (r.before ++ u ∷ []) ++ (run ++ v ∷ r.behind) = r.cut ∙ sym (append_assoc r.before (u ∷ []) (run ++ v ∷ r.behind)) in
        let last : w.steps ≡ ((r.before ++ u ∷ []) ++ run) ++ v ∷ r.behind = next ∙ sym (append_assoc (r.before ++ u ∷ []) run (v ∷ r.behind)) in
        let one : length (r.before ++ u ∷ []) ≡ k + 1 = omega (arith, length-append r.before (u ∷ [])) in
        let two : length ((r.before ++ u ∷ []) ++ run) ≡ k + 1 + n = omega (arith, one, length-append (r.before ++ u ∷ []) run, length-replicate n d) in
        let first_step : step_at w k ≡ u = step_after w r.before u (run ++ v ∷ r.behind) r.cut in
        let last_step : step_at w (k + 1 + n) ≡ v = ap (step_at w) (sym two) ∙ step_after w ((r.before ++ u ∷ []) ++ run) v r.behind last in
        let here : point_at w (k + 1) ≡ p = ap (point_at w) (sym one) ∙ point_after w (r.before ++ u ∷ []) (run ++ v ∷ r.behind) next ∙ r.place in
        let equal : take n (drop (k + 1) w.steps) ≡ run = ap (take n) (ap (drop (k + 1)) next ∙ drop_at (r.before ++ u ∷ []) (run ++ v ∷ r.behind) (k + 1) one) ∙ take_at run (v ∷ r.behind) n (length-replicate n d) in
        let starts = r.starts in
        let ends = r.ends in
        let long : length w.steps ≡ k + 1 + n + (1 + length r.behind) = omega (arith, ap length last, length-append ((r.before ++ u ∷ []) ++ run) (v ∷ r.behind), two) in
        let low : stub_length first.legal.start ≤ k = omega (arith, starts, ap stub_length start) in
        let high : k + 1 + n < length w.steps - stub_length first.legal.end = omega (arith, ends, ap stub_length end, long) in
        let held = runs_held solids task t is_task first k n d low r.some high equal (subst (λ (e : Dir). 0 < turn e d) (sym first_step) turned) (subst (λ (e : Dir). 0 < turn d e) (sym last_step) turns) in
        subst (λ (b : Dir). IsHeldTo solids task.via (held_to b v) (run_line p d n)) first_step
        (subst (λ (b : Dir). IsHeldTo solids task.via (held_to (step_at w k) b) (run_line p d n)) last_step
        (subst (λ c. IsHeldTo solids task.via (held_to (step_at w k) (step_at w (k + 1 + n))) (run_line c d n)) here held))
