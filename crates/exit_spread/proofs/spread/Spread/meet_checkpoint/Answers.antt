-- The crossing at the checkpoint is the one behind the run's exit; there the exits are ways ahead.
use Rattle.std.proofs.Common.{◌≡◌, ◌≢◌, All, None, refl, sym, ap, subst, ◌∙◌, FitsSigned, w64, rules, arith}
use Rattle.std.specs.Prelude.{Any}
use Rattle.std.proofs.lemmas.Bool.{false≢true}
use Rattle.std.proofs.lemmas.Int.{to_z-of_z}
use Rattle.std.proofs.lemmas.List.Elements.{All-contains}
use Rattle.plane_geom.specs.declared.point.Dir.{Dir}
use Rattle.plane_geom.specs.declared.point.Dir.TheVariants.{East, South, West, North}
use Rattle.plane_geom.specs.Along.{along, reach, way_of}
use Rattle.plane_geom.specs.Floor.{point_on}
use Rattle.plane_geom.specs.Point.{PointIsOnSheet, opposite}
use Rattle.line_arena.specs.Arena.{StandsAt}
use Rattle.line_arena.proofs.Arenas.ArenaLaws.{one_crossing}
use Rattle.line_lists.specs.Lists.{number_of, stops_of}
use Rattle.line_lists.specs.declared.stop.Stop.{Stop}
use Rattle.move_model.specs.Places.{ComesTo}
use Rattle.exit_rows.specs.Exits.{ahead_at}
use Rattle.exit_rows.specs.declared.exit.Exit.{Exit}
use Rattle.exit_spread.specs.Propagating.{Adds, IsBehind, IsFurtherAhead, IsMet, IsOfferable}
use Rattle.exit_spread.specs.Offers.{IsOffered, exit_of}
use Rattle.exit_spread.specs.Ways.{IsWayAhead, place_at, turned}
use Rattle.exit_spread.proofs.Spreading.Adding.{adds_both, adds_more, offered_on}
use Rattle.exit_spread.proofs.Spreading.Behind.{end_within, further, further_offerable, run_small, same_across, turned_offerable, way_on, way_turned}
use Rattle.exit_spread.proofs.Spreading.OnLine.{line_listed, run_line, stop_at, stop_here, there}
use Rattle.exit_spread.proofs.spread.Spread.meet_checkpoint.Goals as goal
use Rattle.exit_spread.proofs.spread.Spread.meet_checkpoint.Goals.{In-Some-crossing_along, After-offer-arg-1, After-on, In_ok-offer}

pub ahead_behind-requires-clause-small : goal.ahead_behind-requires-clause-small
ahead_behind-requires-clause-small c = run_small c.args.problem.now c.args.lists.now c.requires.ready c.requires.lists c.args.run.now c.requires.run

pub ahead_behind-requires-clause-at_within : goal.ahead_behind-requires-clause-at_within
ahead_behind-requires-clause-at_within c = All-contains PointIsOnSheet c.args.problem.now.task.now.via c.args.at c.requires.ready.problem.is_task.via c.requires.checkpoint

pub ahead_behind-requires-clause-end_within : goal.ahead_behind-requires-clause-end_within
ahead_behind-requires-clause-end_within c = end_within c.args.problem.now c.args.lists.now c.requires.ready c.requires.lists c.args.run.now c.requires.run

pub returns-in_default-clause-met : goal.returns-in_default-clause-met
returns-in_default-clause-met c = λ k b.
    absurd (c.in_default.ensures.none (search rules) b.counts (same_across c.args.problem.now c.args.lists.now c.requires.ready c.requires.lists c.args.run.now c.requires.run k c.args.at b))

pub stops-requires : goal.stops-requires
stops-requires c = line_listed c.args.problem.now c.args.lists.now c.requires.ready c.requires.lists c.args.run.now c.requires.run

pub returns-in_default-crossing_along-clause-met : goal.returns-in_default-crossing_along-clause-met
returns-in_default-crossing_along-clause-met c = λ k b.
    let p = c.args.problem.now in
    let r = c.args.run.now in
    let fits : FitsSigned w64 c.along-along.result = search rules in
    let none = simp to_z-of_z at c.in_default-crossing_along.ensures.none in
    let found = stop_at p c.args.lists.now c.requires.ready c.requires.lists r c.requires.run k c.args.at b.here b.on in
    let all : All (λ (s : Stop). s.along ≢ c.along-along.result) (stops_of c.args.lists.now r.line) = subst (All (λ (s : Stop). s.along ≢ c.along-along.result)) c.stops.ensures (none (search rules)) in
    absurd (All-contains (λ (s : Stop). s.along ≢ c.along-along.result) (stops_of c.args.lists.now r.line) found.0 all found.1.has
    (found.1.along ∙ sym (c.along-along.ensures ∙ ap (λ w. along w c.args.at) c.way.ensures)))

-- the crossing that was found is behind the run's exit, at the checkpoint
behind : (c : In-Some-crossing_along) → IsBehind c.args.problem.now (number_of c.args.lists.now) c.args.run.now c.in-Some-crossing_along.crossing c.args.at
behind c =
    let p = c.args.problem.now in
    let lists = c.args.lists.now in
    let r = c.args.run.now in
    let d = r.heading in
    let at = c.args.at in
    let some = c.in-Some.ensures.some in
    let fits : FitsSigned w64 c.along-along.result = search rules in
    let found = simp to_z-of_z at c.in-Some-crossing_along.ensures.some in
    let any : Any (λ (s : Stop). (s.along ≡ c.along-along.result) × (s.crossing ≡ c.in-Some-crossing_along.crossing)) (stops_of lists r.line) =
    subst (λ xs. Any (λ (s : Stop). (s.along ≡ c.along-along.result) × (s.crossing ≡ c.in-Some-crossing_along.crossing)) xs) c.stops.ensures found in
    let s : Stop = any.1 in
    let l = run_line p lists c.requires.ready c.requires.lists r c.requires.run in
    let st = stop_here p lists c.requires.ready c.requires.lists r c.requires.run s (any.0, any.2, any.3) in
    let z : s.along ≡ along (way_of d) at = any.4.0 ∙ c.along-along.ensures ∙ ap (λ w. along w at) c.way.ensures in
    let point : point_on l.line.way l.line.at s.along ≡ at =
    (λ i. point_on (l.way i) (l.at i) (z i)) ∙ ap (λ x. point_on (way_of d) x (along (way_of d) at)) (sym some.1) ∙ there (way_of d) at in
    record {
      here = subst (λ k. StandsAt p.arena.now k at) any.4.1 (subst (StandsAt p.arena.now s.crossing) point st.stands);
      on = subst (λ k. number_of lists k (way_of d) ≡ r.line) any.4.1 st.on;
      counts = some.0;
    }

ahead_is : (c : In-Some-crossing_along) → c.in-Some.ahead ≡ ahead_at c.args.run.now.kept (reach c.args.run.now.heading c.args.at)
ahead_is c = c.in-Some.ensures.some.2

same_way : (d : Dir) → way_of d ≡ way_of (opposite d)
same_way East = refl
same_way South = refl
same_way West = refl
same_way North = refl

within : (c : In-Some-crossing_along) → PointIsOnSheet c.args.at
within c = All-contains PointIsOnSheet c.args.problem.now.task.now.via c.args.at c.requires.ready.problem.is_task.via c.requires.checkpoint

far : (c : In-Some-crossing_along) → IsFurtherAhead (ahead_at c.args.run.now.kept (reach c.args.run.now.heading c.args.at))
far c = further c.args.problem.now c.args.lists.now c.requires.ready c.requires.lists c.args.run.now c.requires.run c.in-Some-crossing_along.crossing c.args.at (behind c)

pub tip-tip-requires-clause-ahead : goal.tip-tip-requires-clause-ahead
tip-tip-requires-clause-ahead c = subst IsFurtherAhead (sym (ahead_is c)) (far c)

pub tip-tip-requires-clause-within : goal.tip-tip-requires-clause-within
tip-tip-requires-clause-within c = within c

-- both exits
tip_is : (c : After-offer-arg-1) → c.tip-tip.result ≡ exit_of (number_of c.args.lists.now) (place_at c.in-Some-crossing_along.crossing c.args.run.now.stage (opposite c.args.run.now.heading)) None
    (turned c.args.problem.now (opposite c.args.run.now.heading) c.args.at c.args.run.now.heading (ahead_at c.args.run.now.kept (reach c.args.run.now.heading c.args.at)))
tip_is c =
    let r = c.args.run.now in
    let k = c.in-Some-crossing_along.crossing in
    let b = behind (goal.at.offer-requires-clause-way c).In-Some-crossing_along in
    let v = ahead_is (goal.at.offer-requires-clause-way c).In-Some-crossing_along in
    let line : r.line ≡ number_of c.args.lists.now k (way_of (opposite r.heading)) = sym b.on ∙ ap (number_of c.args.lists.now k) (same_way r.heading) in
    c.tip-tip.ensures ∙ (λ i. record {
      place = place_at k r.stage (opposite r.heading);
      line = line i;
      next = None;
      ahead = turned c.args.problem.now (opposite r.heading) c.args.at r.heading (v i);
    })

on_is : (c : After-on) → c.on.result ≡ exit_of (number_of c.args.lists.now) (place_at c.in-Some-crossing_along.crossing c.args.run.now.stage c.args.run.now.heading) None
    (ahead_at c.args.run.now.kept (reach c.args.run.now.heading c.args.at))
on_is c =
    let r = c.args.run.now in
    let k = c.in-Some-crossing_along.crossing in
    let b = behind (goal.at.offer-requires-then-rises_to-clause-way c).In-Some-crossing_along in
    let v = ahead_is (goal.at.offer-requires-then-rises_to-clause-way c).In-Some-crossing_along in
    let line = sym b.on in
    c.on.ensures ∙ (λ i. record { place = place_at k r.stage r.heading; line = line i; next = None; ahead = v i })

pub offer-requires-clause-way : goal.offer-requires-clause-way
offer-requires-clause-way c =
    let p = c.args.problem.now in
    let r = c.args.run.now in
    subst (λ (x : Exit). IsWayAhead p x.place c.args.at x.ahead) (sym (tip_is c))
    (way_turned p c.args.lists.now c.requires.ready c.requires.lists r c.requires.run c.in-Some-crossing_along.crossing c.args.at (behind (goal.at.offer-requires-clause-way c).In-Some-crossing_along) (opposite r.heading))

pub offer-requires-clause-offerable : goal.offer-requires-clause-offerable
offer-requires-clause-offerable c =
    let h = (goal.at.offer-requires-clause-way c).In-Some-crossing_along in
    subst (λ (x : Exit). IsOfferable x.ahead) (sym (tip_is c))
    (turned_offerable c.args.problem.now c.requires.ready (opposite c.args.run.now.heading) c.args.at c.args.run.now.heading (ahead_at c.args.run.now.kept (reach c.args.run.now.heading c.args.at)) (within h) (far h))

-- the first offer, and the second
first : (c : In_ok-offer) → c.tip-tip.result ≡ exit_of (number_of c.args.lists.now) (place_at c.in-Some-crossing_along.crossing c.args.run.now.stage (opposite c.args.run.now.heading)) None
    (turned c.args.problem.now (opposite c.args.run.now.heading) c.args.at c.args.run.now.heading (ahead_at c.args.run.now.kept (reach c.args.run.now.heading c.args.at))) →
    Adds c.args.problem.now (number_of c.args.lists.now) c.args.self.now c.offer.new.self 1
first c is = c.in_ok-offer.ensures.adds (number_of c.args.lists.now) (subst (λ (x : Exit). x.line ≡ number_of c.args.lists.now x.place.crossing (way_of x.place.heading)) (sym is) refl) c.requires.sound

pub offer-requires-then-rises_to-clause-best : goal.offer-requires-then-rises_to-clause-best
offer-requires-then-rises_to-clause-best c =
    let at = goal.at.offer-requires-then-rises_to-clause-best c in
    let lower = (first at.In_ok-offer (tip_is at.After-offer-arg-1)).best in
    let most = c.requires.sound.best.most in
    omega (arith, lower, most)

pub offer-requires-then-rises_to-clause-way : goal.offer-requires-then-rises_to-clause-way
offer-requires-then-rises_to-clause-way c =
    let h = (goal.at.offer-requires-then-rises_to-clause-way c).In-Some-crossing_along in
    subst (λ (x : Exit). IsWayAhead c.args.problem.now x.place c.args.at x.ahead) (sym (on_is c))
    (way_on c.args.problem.now c.args.lists.now c.requires.ready c.requires.lists c.args.run.now c.requires.run c.in-Some-crossing_along.crossing c.args.at (behind h))

pub offer-requires-then-rises_to-clause-offerable : goal.offer-requires-then-rises_to-clause-offerable
offer-requires-then-rises_to-clause-offerable c =
    let h = (goal.at.offer-requires-then-rises_to-clause-way c).In-Some-crossing_along in
    subst (λ (x : Exit). IsOfferable x.ahead) (sym (on_is c)) (further_offerable (ahead_at c.args.run.now.kept (reach c.args.run.now.heading c.args.at)) (far h))

pub returns-in_ok-offer-2-clause-adds : goal.returns-in_ok-offer-2-clause-adds
returns-in_ok-offer-2-clause-adds c =
    let at = goal.at.returns-in_ok-offer-2-clause-adds c in
    let p = c.args.problem.now in
    let n = number_of c.args.lists.now in
    let one = first at.In_ok-offer (tip_is at.After-offer-arg-1) in
    let two = c.in_ok-offer-2.ensures.adds n (subst (λ (x : Exit). x.line ≡ n x.place.crossing (way_of x.place.heading)) (sym (on_is at.After-on)) refl) one.sound in
    adds_both p n c.args.self.now c.offer.new.self c.offer-then-rises_to.new.self 1 1 one two

pub returns-in_ok-offer-2-clause-met : goal.returns-in_ok-offer-2-clause-met
returns-in_ok-offer-2-clause-met c = λ k b.
    let at = goal.at.returns-in_ok-offer-2-clause-met c in
    let p = c.args.problem.now in
    let r = c.args.run.now in
    let n = number_of c.args.lists.now in
    let new = c.offer-then-rises_to.new.self in
    let one = first at.In_ok-offer (tip_is at.After-offer-arg-1) in
    let two = c.in_ok-offer-2.ensures.adds n (subst (λ (x : Exit). x.line ≡ n x.place.crossing (way_of x.place.heading)) (sym (on_is at.After-on)) refl) one.sound in
    let here = behind at.In-Some-crossing_along in
    let same = one_crossing p.arena.now c.in-Some-crossing_along.crossing k c.args.at c.requires.ready.arena here.here b.here in
    let tip = offered_on p n c.offer.new.self new 1 two None c.args.at _ (subst (IsOffered p c.offer.new.self None c.args.at) (tip_is at.After-offer-arg-1) c.in_ok-offer.ensures.offered) in
    let on = subst (IsOffered p new None c.args.at) (on_is at.After-on) c.in_ok-offer-2.ensures.offered in
    subst (λ j. IsMet p n new r j c.args.at) same (record { tip = tip; on = λ j less comes. on })

pub returns-else-rises_to-clause-adds : goal.returns-else-rises_to-clause-adds
returns-else-rises_to-clause-adds c =
    let at = goal.at.returns-else-rises_to-clause-adds c in
    adds_more c.args.problem.now (number_of c.args.lists.now) c.args.self.now c.offer.new.self 1 2 (omega arith) (first at.In_ok-offer (tip_is at.After-offer-arg-1))

pub returns-else-rises_to-clause-met : goal.returns-else-rises_to-clause-met
returns-else-rises_to-clause-met c = λ k b.
    let at = goal.at.returns-else-rises_to-clause-met c in
    let p = c.args.problem.now in
    let r = c.args.run.now in
    let n = number_of c.args.lists.now in
    let here = behind at.In-Some-crossing_along in
    let same = one_crossing p.arena.now c.in-Some-crossing_along.crossing k c.args.at c.requires.ready.arena here.here b.here in
    subst (λ j. IsMet p n c.offer.new.self r j c.args.at) same (record {
      tip = subst (IsOffered p c.offer.new.self None c.args.at) (tip_is at.After-offer-arg-1) c.in_ok-offer.ensures.offered;
      on = λ j less comes. absurd (false≢true (sym c.if-rises_to.false ∙ c.rises_to.ensures j less (subst (λ vs. ComesTo vs j c.args.at r.stage) (sym c.as_slice.ensures) comes)));
    })
