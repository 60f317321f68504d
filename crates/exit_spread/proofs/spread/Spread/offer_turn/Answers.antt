-- The stop is behind the run's exit; there the turn is a way ahead.
use Rattle.std.proofs.Common.{◌≡◌, ◌<◌, List, None, Some, length, refl, sym, ap, subst, ◌∙◌, FitsSigned, w64, rules, arith}
use Rattle.std.proofs.lemmas.Int.{ints, to_z-of_z}
use Rattle.plane_geom.specs.declared.floor.Line.{Line}
use Rattle.plane_geom.specs.Along.{reach, way_of}
use Rattle.plane_geom.specs.Point.{IsCoordinate}
use Rattle.line_arena.specs.Arena.{StandsAt}
use Rattle.line_arena.proofs.Arenas.ArenaLaws.{one_point}
use Rattle.line_lists.specs.Lists.{number_of}
use Rattle.exit_rows.specs.Exits.{ahead_at}
use Rattle.exit_rows.specs.declared.exit.Exit.{Exit}
use Rattle.exit_spread.specs.Near.{HasReach}
use Rattle.exit_spread.specs.Propagating.{IsBehind, IsOfferable, IsTurnOffered, reach_along}
use Rattle.exit_spread.specs.Offers.{IsOffered, exit_of}
use Rattle.exit_spread.specs.Ways.{IsWayAhead, place_at, turned}
use Rattle.exit_spread.proofs.Holding.Runs.{line_within}
use Rattle.exit_spread.proofs.Sizes.{along_within, crossing_within, reach_within}
use Rattle.exit_spread.proofs.Spreading.Behind.{end_within, further, run_small, turned_offerable, way_turned}
use Rattle.exit_spread.proofs.Spreading.OnLine.{line_listed, point_read, stop_across, stop_here}
use Rattle.exit_spread.proofs.spread.Spread.offer_turn.Goals as goal
use Rattle.exit_spread.proofs.spread.Spread.offer_turn.Goals.{After-point_on-at, After-offer-arg-1}

pub bounds-lines-run : goal.bounds-lines-run
bounds-lines-run c =
    subst (λ (xs : List Line). c.args.run.now.line < length xs) (sym c.lines.ensures)
    (line_listed c.args.problem.now c.args.lists.now c.requires.ready c.requires.of.are_lists c.args.run.now c.requires.run)

pub offset_bounds-lines-run : goal.offset_bounds-lines-run
offset_bounds-lines-run c =
    let within = subst (λ (xs : List Line). c.args.run.now.line < length xs) (sym c.lines.ensures)
    (line_listed c.args.problem.now c.args.lists.now c.requires.ready c.requires.of.are_lists c.args.run.now c.requires.run) in
    omega (arith, within)

behind : (c : After-point_on-at) → IsBehind c.args.problem.now (number_of c.args.lists.now) c.args.run.now c.args.stop.now.crossing c.point_on-at.result
behind c =
    let p = c.args.problem.now in
    let r = c.args.run.now in
    let s = c.args.stop.now in
    let lists = c.args.lists.now in
    let st = stop_here p lists c.requires.ready c.requires.of.are_lists r c.requires.run s c.requires.stop in
    let fits : FitsSigned w64 s.along = search rules in
    let at = simp to_z-of_z at c.point_on-at.ensures in
    let is = at ∙ point_read p lists c.requires.ready c.requires.of.are_lists r c.requires.run c.lines.result.now _ s.along c.lines.ensures in
    let far : reach r.heading c.point_on-at.result ≡ reach_along r.heading s.along = ap (reach r.heading) is ∙ st.reach in
    let low = c.requires.from in
    let high = c.requires.before in
    record {
      here = subst (StandsAt p.arena.now s.crossing) (sym is) st.stands;
      on = st.on;
      counts = record { from = omega (arith, ints, far, low); before = omega (arith, ints, far, high) };
    }

pub reach_along-requires : goal.reach_along-requires
reach_along-requires c =
    let r = c.args.run.now in
    let small = run_small c.args.problem.now c.args.lists.now c.requires.ready c.requires.of.are_lists r c.requires.run in
    let before = c.requires.before in
    let fits : FitsSigned w64 c.args.stop.now.along = search rules in
    simp to_z-of_z (along_within r.heading c.args.stop.now.along r.kept.from r.kept.at small.from small.at c.requires.from (omega (arith, ints, before)))

-- the line across has touches
pub may_begin-requires-clause-line : goal.may_begin-requires-clause-line
may_begin-requires-clause-line c =
    let p = c.args.problem.now in
    let s = c.args.stop.now in
    let st = stop_here p c.args.lists.now c.requires.ready c.requires.of.are_lists c.args.run.now c.requires.run s c.requires.stop in
    subst (λ n. n < length c.args.touches.now) (sym (st.leads c.args.turns.now.before c.requires.turn)) (line_within p c.args.lists.now c.args.touches.now c.requires.ready c.requires.of c.args.turns.now.before s.crossing _ st.stands)

pub may_begin-requires-clause-end : goal.may_begin-requires-clause-end
may_begin-requires-clause-end c =
    let fits : FitsSigned w64 c.args.turns.now.end = search rules in
    simp to_z-of_z (subst IsCoordinate (sym c.requires.end) (reach_within c.args.turns.now.before c.args.run.now.end (end_within c.args.problem.now c.args.lists.now c.requires.ready c.requires.of.are_lists c.args.run.now c.requires.run)))

pub returns-then-not-has-clause-turned : goal.returns-then-not-has-clause-turned
returns-then-not-has-clause-turned c = λ near.
    let fits : FitsSigned w64 c.reach_along.result = search rules in
    let along_fits : FitsSigned w64 c.args.stop.now.along = search rules in
    let has = simp to_z-of_z at c.has.ensures in
    let far = simp to_z-of_z at c.reach_along.ensures in
    let yes = has.1 (subst (HasReach c.args.turns.now.near) (sym far) near) in
    let no = c.if-not-has.true in
    absurd (grind arith)

pub returns-then-not-may_begin-clause-turned : goal.returns-then-not-may_begin-clause-turned
returns-then-not-may_begin-clause-turned c = λ near q here may.
    let p = c.args.problem.now in
    let s = c.args.stop.now in
    let h = c.args.turns.now.before in
    let st = stop_here p c.args.lists.now c.requires.ready c.requires.of.are_lists c.args.run.now c.requires.run s c.requires.stop in
    let is = stop_across p c.args.lists.now c.requires.ready c.requires.of.are_lists c.args.run.now c.requires.run s c.requires.stop h c.requires.turn q here in
    let fits : FitsSigned w64 c.args.stop.now.along = search rules in
    let end_fits : FitsSigned w64 c.args.turns.now.end = search rules in
    let begins = simp to_z-of_z at c.may_begin.ensures in
    let yes = begins c.args.lists.now c.requires.of s.crossing q here (sym (st.leads h c.requires.turn)) is.across (is.reach ∙ sym c.requires.end) may in
    let no = c.if-not-may_begin.true in
    absurd (grind arith)

pub turn-exit-requires-clause-small : goal.turn-exit-requires-clause-small
turn-exit-requires-clause-small c = run_small c.args.problem.now c.args.lists.now c.requires.ready c.requires.of.are_lists c.args.run.now c.requires.run

pub turn-exit-requires-clause-within : goal.turn-exit-requires-clause-within
turn-exit-requires-clause-within c = crossing_within c.args.problem.now c.args.stop.now.crossing c.point_on-at.result c.requires.ready (behind (goal.at.turn-exit-requires-clause-within c).After-point_on-at).here

pub turn-exit-requires-clause-upto : goal.turn-exit-requires-clause-upto
turn-exit-requires-clause-upto c =
    let counts = (behind (goal.at.turn-exit-requires-clause-upto c).After-point_on-at).counts in
    let before = counts.before in
    omega (arith, ints, before)

exit_is : (c : After-offer-arg-1) → c.turn-exit.result ≡ exit_of (number_of c.args.lists.now) (place_at c.args.stop.now.crossing c.args.run.now.stage c.args.turns.now.before) (Some c.args.run.now.heading)
    (turned c.args.problem.now c.args.turns.now.before c.point_on-at.result c.args.run.now.heading (ahead_at c.args.run.now.kept (reach c.args.run.now.heading c.point_on-at.result)))
exit_is c =
    let p = c.args.problem.now in
    let r = c.args.run.now in
    let s = c.args.stop.now in
    let st = stop_here p c.args.lists.now c.requires.ready c.requires.of.are_lists r c.requires.run s c.requires.stop in
    let line = st.leads c.args.turns.now.before c.requires.turn in
    c.turn-exit.ensures ∙ (λ i. record {
      place = place_at s.crossing r.stage c.args.turns.now.before;
      line = line i;
      next = Some r.heading;
      ahead = turned p c.args.turns.now.before c.point_on-at.result r.heading (ahead_at r.kept (reach r.heading c.point_on-at.result));
    })

pub offer-requires-clause-way : goal.offer-requires-clause-way
offer-requires-clause-way c =
    let p = c.args.problem.now in
    subst (λ (x : Exit). IsWayAhead p x.place c.point_on-at.result x.ahead) (sym (exit_is c))
    (way_turned p c.args.lists.now c.requires.ready c.requires.of.are_lists c.args.run.now c.requires.run c.args.stop.now.crossing c.point_on-at.result (behind (goal.at.offer-requires-clause-way c).After-point_on-at) c.args.turns.now.before)

pub offer-requires-clause-offerable : goal.offer-requires-clause-offerable
offer-requires-clause-offerable c =
    let p = c.args.problem.now in
    let r = c.args.run.now in
    let b = behind (goal.at.offer-requires-clause-offerable c).After-point_on-at in
    subst (λ (x : Exit). IsOfferable x.ahead) (sym (exit_is c))
    (turned_offerable p c.requires.ready c.args.turns.now.before c.point_on-at.result r.heading (ahead_at r.kept (reach r.heading c.point_on-at.result))
    (crossing_within p c.args.stop.now.crossing c.point_on-at.result c.requires.ready b.here)
    (further p c.args.lists.now c.requires.ready c.requires.of.are_lists r c.requires.run c.args.stop.now.crossing c.point_on-at.result b))

pub returns-clause-adds : goal.returns-clause-adds
returns-clause-adds c =
    let is = exit_is (goal.at.returns-clause-adds c).After-offer-arg-1 in
    let n = number_of c.args.lists.now in
    c.in_ok-offer.ensures.adds n (subst (λ (x : Exit). x.line ≡ n x.place.crossing (way_of x.place.heading)) (sym is) refl) c.requires.sound

pub returns-clause-turned : goal.returns-clause-turned
returns-clause-turned c = λ near q here may.
    let p = c.args.problem.now in
    let s = c.args.stop.now in
    let b = behind (goal.at.returns-clause-turned c).After-point_on-at in
    let same = one_point p.arena.now s.crossing c.point_on-at.result q c.requires.ready.arena b.here here in
    subst (λ x. IsTurnOffered p (number_of c.args.lists.now) c.offer.new.self c.args.run.now c.args.turns.now.before s.crossing x) same
    (subst (IsOffered p c.offer.new.self None c.point_on-at.result) (exit_is (goal.at.returns-clause-turned c).After-offer-arg-1) c.in_ok-offer.ensures.offered)
