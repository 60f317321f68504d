-- What is ahead on the way of a first walk is known, station by station, if exits are offered and kept by these rules.
use Rattle.std.proofs.Common.{◌≡◌, ◌≢◌, ◌⊎◌, ℕ, suc, zero, ◌<◌, ◌≤◌, Option, None, Some, List, [], ◌∷◌, ◌++◌, Contains, length, refl, sym, ap, subst, ◌∙◌, inl, inr, arith, length-append}
use Rattle.plane_geom.specs.declared.point.Point.{Point}
use Rattle.plane_geom.specs.declared.point.Dir.{Dir}
use Rattle.plane_geom.specs.declared.rect.Solid.{Solid}
use Rattle.plane_geom.specs.Point.{distance}
use Rattle.line_arena.specs.Arena.{Arena, IsArena, StandsAt}
use Rattle.walk_model.specs.declared.task.Task.{Task}
use Rattle.walk_model.specs.Cost.{turn}
use Rattle.walk_model.specs.Legal.{IsTask}
use Rattle.walk_model.specs.Order.{IsFirst, Triple}
use Rattle.walk_laws.specs.Lines.{run_line}
use Rattle.walk_laws.specs.Sides.{IsHeldTo, held_to}
use Rattle.move_model.specs.declared.ahead.Ahead.{Ahead}
use Rattle.move_model.specs.declared.place.Place.{Place}
use Rattle.move_model.specs.Ahead.{ahead, with_steps, with_stretch}
use Rattle.move_model.specs.Places.{IsEnding}
use Rattle.move_model.specs.Ways.{GoesAlongWay, HasRest, Leads, Leg, steps_along, steps_of_way}
use Rattle.move_model.specs.Stations.{AreStraightLegs, IsNextStation, IsTurn, Stop, doubles, ends, rises, turns}
use Rattle.move_model.proofs.GoingOn.Joined.{steps_behind}
use Rattle.move_model.proofs.GoingOn.Rests.{rest_way}
use Rattle.move_model.proofs.Stopping.Stops.{held_to_next, next_stop, one_at_least}
use Rattle.move_model.proofs.Stopping.WayRuns.{bend_ahead, straight_ahead}

module _ (solids : List Solid) (a : Arena) (arena : IsArena a) (task : Task) (t : Triple) (is_task : IsTask task) (first : IsFirst solids task t) (along : GoesAlongWay solids a task t) where
  -- what is ahead at a point on the way of a walk that arrives there with the heading
  abbrev pub left : Dir → Point → List Leg → Ahead
  left h q rest = ahead task.penalty h q (steps_of_way rest along.end) along.end.cost

  -- for an exit after which the walk goes on in that direction: the run from the place to the point is held, or need not be
  abbrev pub IsHeldFor : Option Dir → Place → Point → Dir → Point → Type 0
  IsHeldFor next y q d r = (next ≡ None) ⊎ ((b : Dir) × (next ≡ Some b) × IsHeldTo solids task.via (held_to y.heading b) (run_line q d (distance q r)))

  -- `Offered`: an exit at the place, whose heading is that along the line, and the direction after it. `Known`: what is ahead of a place in a direction, by an exit no nearer than the second place
  module _ (Offered : Place → Option Dir → Ahead → Type 0) (Known : Place → Dir → Place → Option Dir → Ahead → Type 0)
      (offers_end : (y : Place) (q : Point) → HasRest solids a task t along y q [] → IsEnding solids a task.via along.end y → Offered y None (left y.heading q []))
      (offers_turn : (y : Place) (q : Point) (m : Leg) (back : List Leg) → HasRest solids a task t along y q (m ∷ back) → IsTurn solids a task t along y q m back →
      (z : Place) (r : Point) (next : Option Dir) (v : Ahead) → StandsAt a z.crossing r → Known y m.to.heading z next v → IsHeldFor next y q m.to.heading r →
      Offered y (Some m.to.heading) (with_stretch task.penalty y.heading (record { from = q; dir = m.to.heading; steps = 0 }) v))
      (offers_tip : (y : Place) (q : Point) (m : Leg) (back : List Leg) → HasRest solids a task t along y q (m ∷ back) → turn y.heading m.to.heading ≡ 2 → Contains task.via q →
      (z : Place) (next : Option Dir) (v : Ahead) → Known y m.to.heading z next v →
      Offered y None (with_stretch task.penalty y.heading (record { from = q; dir = m.to.heading; steps = 0 }) v))
      (offers_on : (x y : Place) (q : Point) (m : Leg) (back : List Leg) → HasRest solids a task t along y q (m ∷ back) → y.heading ≡ m.to.heading → x.stage < y.stage →
      (z : Place) (next : Option Dir) (v : Ahead) → Known y m.to.heading z next v → Offered y None v)
      (keeps : (x : Place) (p : Point) (l : Leg) (rest : List Leg) → HasRest solids a task t along x p (l ∷ rest) → (n : IsNextStation solids a task t along x p l rest) →
      (next : Option Dir) → Offered n.station.to next (left n.station.to.heading n.point n.station.back) →
      Known x l.to.heading n.station.to next (with_steps (distance p n.point) (left n.station.to.heading n.point n.station.back))) where
    -- what is known is exactly what is ahead
    pub record IsKnown (x : Place) (p : Point) (l : Leg) (rest : List Leg) : Type 0 where
      pub n : IsNextStation solids a task t along x p l rest
      pub next : Option Dir
      pub known : Known x l.to.heading n.station.to next (left l.to.heading p (l ∷ rest))
      pub why : (next ≡ None) ⊎ ((k : Leg) × (ks : List Leg) × (n.station.back ≡ k ∷ ks) × (next ≡ Some k.to.heading) × (0 < turn l.to.heading k.to.heading))

    -- with the straight legs in front
    in_front : (x : Place) (p : Point) (l : Leg) (rest : List Leg) → HasRest solids a task t along x p (l ∷ rest) → (n : IsNextStation solids a task t along x p l rest) → n.station.to.heading ≡ l.to.heading →
        with_steps (distance p n.point) (left n.station.to.heading n.point n.station.back) ≡ left l.to.heading p (l ∷ rest)
    in_front x p l rest h n same =
        let g = n.station.straight in
        let one = one_at_least a task.via x l.to.heading n.station.legs n.station.to g in
        let d = l.to.heading in
        let e = along.end in
        let cut : steps_of_way (l ∷ rest) e ≡ steps_along (one.0 ∷ one.1) ++ steps_of_way n.station.back e =
        ap (λ ls. steps_of_way ls e) n.station.split ∙ steps_behind n.station.legs n.station.back e ∙ ap (λ ls. steps_along ls ++ steps_of_way n.station.back e) one.2 in
        ap (λ (b : Dir). with_steps (distance p n.point) (left b n.point n.station.back)) same
        ∙ sym (straight_ahead a arena task.via x n.station.to p n.point d one.0 one.1 (subst (λ ls. Leads a task.via x ls n.station.to) one.2 g.leads) (subst (AreStraightLegs d) one.2 g.straight) h.here n.here task.penalty (steps_of_way n.station.back e) e.cost)
        ∙ ap (λ ds. ahead task.penalty d p ds e.cost) (sym cut)

    -- a turn or a tip in front
    bend : (y : Place) (q : Point) (m : Leg) (back : List Leg) → HasRest solids a task t along y q (m ∷ back) →
        with_stretch task.penalty y.heading (record { from = q; dir = m.to.heading; steps = 0 }) (left m.to.heading q (m ∷ back)) ≡ left y.heading q (m ∷ back)
    bend y q m back h =
        let way = rest_way solids a task t along y q (m ∷ back) h in
        sym (bend_ahead task.penalty y.heading m.to.heading q m.steps (steps_of_way back along.end) along.end.cost way.0.some)

    module _ (x : Place) (p : Point) (l : Leg) (rest : List Leg) (h : HasRest solids a task t along x p (l ∷ rest)) (n : IsNextStation solids a task t along x p l rest) (same : n.station.to.heading ≡ l.to.heading) where
      abbrev y : Place
      y = n.station.to

      kept : (next : Option Dir) → Offered y next (left y.heading n.point n.station.back) →
          (next ≡ None) ⊎ ((k : Leg) × (ks : List Leg) × (n.station.back ≡ k ∷ ks) × (next ≡ Some k.to.heading) × (0 < turn l.to.heading k.to.heading)) → IsKnown x p l rest
      kept next offered why = record { n = n; next = next; known = subst (Known x l.to.heading y next) (in_front x p l rest h n same) (keeps x p l rest h n next offered); why = why }

      -- by what is known after the station
      by_stop : ((m : Leg) (back : List Leg) → n.station.back ≡ m ∷ back → IsKnown y n.point m back) → Stop solids a task t along x y n.point n.station.back → IsKnown x p l rest
      by_stop on (ends none w) =
          kept None (subst (λ ls. Offered y None (left y.heading n.point ls)) (sym none) (offers_end y n.point (subst (HasRest solids a task t along y n.point) none n.on) w)) (inl refl)
      by_stop on (turns m back is turn_here) =
          let k = on m back is in
          let here = subst (HasRest solids a task t along y n.point) is n.on in
          let once = turn_here.once in
          let some : here.front ≢ [] = λ none. absurd (let fewer = n.fewer in omega (arith, ap length none, fewer, ap length is, ap length here.legs, ap length h.legs, length-append here.front (m ∷ back), length-append h.front (l ∷ rest))) in
          let held : IsHeldFor k.next y n.point m.to.heading k.n.point = elim k.why as (λ _. IsHeldFor k.next y n.point m.to.heading k.n.point) [
            | inl none ↦ inl none
            | inr w ↦ inr (w.0.to.heading, w.3, held_to_next solids a arena task t is_task first along y n.point m back here some (omega (arith, once)) k.n w.0 w.1 w.2 w.4)
          ] in
          let offered = offers_turn y n.point m back here turn_here k.n.station.to k.n.point k.next (left m.to.heading n.point (m ∷ back)) k.n.here k.known held in
          kept (Some m.to.heading) (subst (λ ls. Offered y (Some m.to.heading) (left y.heading n.point ls)) (sym is) (subst (Offered y (Some m.to.heading)) (bend y n.point m back here) offered))
          (inr (m, back, is, refl, (let bent : turn l.to.heading m.to.heading ≡ 1 = ap (λ (b : Dir). turn b m.to.heading) (sym same) ∙ once in omega (arith, bent))))
      by_stop on (doubles m back is twice at) =
          let k = on m back is in
          let here = subst (HasRest solids a task t along y n.point) is n.on in
          let offered = offers_tip y n.point m back here twice at k.n.station.to k.next (left m.to.heading n.point (m ∷ back)) k.known in
          kept None (subst (λ ls. Offered y None (left y.heading n.point ls)) (sym is) (subst (Offered y None) (bend y n.point m back here) offered)) (inl refl)
      by_stop on (rises m back is straight up) =
          let k = on m back is in
          let here = subst (HasRest solids a task t along y n.point) is n.on in
          let offered = offers_on x y n.point m back here straight up k.n.station.to k.next (left m.to.heading n.point (m ∷ back)) k.known in
          kept None (subst (λ ls. Offered y None (left y.heading n.point ls)) (sym is) (subst (λ (b : Dir). Offered y None (left b n.point (m ∷ back))) (sym straight) offered)) (inl refl)

    known_from : (fuel : ℕ) (x : Place) (p : Point) (l : Leg) (rest : List Leg) → length (l ∷ rest) ≤ fuel → HasRest solids a task t along x p (l ∷ rest) → IsKnown x p l rest
    known_from zero x p l rest few h = absurd (omega (arith, few))
    known_from (suc fuel) x p l rest few h =
        let s = next_stop solids a arena task t is_task first along x p l rest h in
        let fewer = s.0.fewer in
        by_stop x p l rest h s.0 s.1
        (λ m back is. known_from fuel s.0.station.to s.0.point m back (omega (arith, few, fewer, ap length is)) (subst (HasRest solids a task t along s.0.station.to s.0.point) is s.0.on))
        s.2

    pub known_along_way : (x : Place) (p : Point) (l : Leg) (rest : List Leg) → HasRest solids a task t along x p (l ∷ rest) → IsKnown x p l rest
    known_along_way x p l rest h = known_from (length (l ∷ rest)) x p l rest (omega arith) h
