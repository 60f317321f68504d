-- The move to the nearest crossing is the only one, and what is known there says whether it fits.
use Rattle.std.proofs.Common.{◌≡◌, Some, None, refl, sym, ap, subst, ◌∙◌, arith, rules}
use Rattle.plane_geom.specs.declared.point.Dir.{Dir}
use Rattle.plane_geom.specs.declared.point.Point.{Point}
use Rattle.plane_geom.proofs.Signed.{distance_bound}
use Rattle.line_arena.specs.Arena.{LiesFurther}
use Rattle.move_model.specs.declared.place.Place.{Place}
use Rattle.move_model.specs.Ahead.{with_stretch}
use Rattle.route_search.specs.Known.{knowledge_of, known_of}
use Rattle.route_search.proofs.Ahead.Knowing.{all_attained}
use Rattle.exit_spread.proofs.Sizes.{across_small, crossing_within}
use Rattle.route_search.proofs.Tracing.Tails.{the_only}
use Rattle.route_search.proofs.Moving.TheMoves.{the_move}
use Rattle.route_search.proofs.follow.Follower.move_in.Goals as goal

pub returns-then-not-leads-clause-none : goal.returns-then-not-leads-clause-none
returns-then-not-leads-clause-none c none m is =
    let made = c.leads.ensures.1 is.leads in
    let test = c.if-not-leads.true in
    absurd (cc)

pub returns-in_err-crossing-clause-none : goal.returns-in_err-crossing-clause-none
returns-in_err-crossing-clause-none c none m is =
    c.in_err-crossing.ensures.absent.0 (search rules) m.to.crossing (subst (λ (d : Dir). LiesFurther c.args.self.now.problem.now.arena.now d c.args.standing.now.place.crossing m.to.crossing) is.dir is.move.next.lies)

pub distance-requires-clause-from_within : goal.distance-requires-clause-from_within
distance-requires-clause-from_within c = crossing_within c.args.self.now.problem.now c.args.standing.now.place.crossing c.point-from.result c.requires.knowing.ready c.point-from.ensures

pub distance-requires-clause-to_within : goal.distance-requires-clause-to_within
distance-requires-clause-to_within c = crossing_within c.args.self.now.problem.now c.in_ok-crossing.crossing c.point-at.result c.requires.knowing.ready c.point-at.ensures

pub returns-in_err-ahead-clause-none : goal.returns-in_err-ahead-clause-none
returns-in_err-ahead-clause-none c none m is =
    let p = c.args.self.now.problem.now in
    let s = c.args.standing.now in
    let stage = rw c.as_slice.ensures at c.stage_at-stage.ensures in
    let there = the_move p s.place c.args.dir c.in_ok-crossing.crossing c.stage_at-stage.result c.distance.result c.point-from.result c.point-at.result c.distance.ensures c.requires.knowing.ready c.point-from.ensures c.point-at.ensures c.in_ok-crossing.ensures.nearest stage in
    let to : Place = record { crossing = c.in_ok-crossing.crossing; stage = c.stage_at-stage.result; heading = c.args.dir } in
    let only = the_only p (knowledge_of c.args.self.now) s c.args.dir c.requires.knowing.ready.arena m _ to is there.0 refl in
    let is_this : known_of c.args.self.now to ≡ Some m.ahead = ap (known_of c.args.self.now) (sym only.1.0) ∙ is.is_known in
    absurd (let e : Some m.ahead ≡ None = sym is_this ∙ sym c.ahead_of.ensures ∙ c.in_err-ahead.was in cc)

pub makes-requires-clause-cost : goal.makes-requires-clause-cost
makes-requires-clause-cost c =
    let p = c.args.self.now.problem.now in
    let small = (all_attained c.args.self.now c.requires.knowing).small _ c.in_ok-ahead.ahead (sym c.ahead_of.ensures ∙ c.in_ok-ahead.was) in
    let from = crossing_within p c.args.standing.now.place.crossing c.point-from.result c.requires.knowing.ready c.point-from.ensures in
    let at = crossing_within p c.in_ok-crossing.crossing c.point-at.result c.requires.knowing.ready c.point-at.ensures in
    let far = distance_bound c.point-from.result c.point-at.result from at in
    omega (arith, far, c.distance.ensures, small.cost, c.requires.knowing.ready.problem.is_task.penalty)

pub makes-requires-clause-runs : goal.makes-requires-clause-runs
makes-requires-clause-runs c =
    let small = (all_attained c.args.self.now c.requires.knowing).small _ c.in_ok-ahead.ahead (sym c.ahead_of.ensures ∙ c.in_ok-ahead.was) in
    omega (arith, small.runs)

pub makes-requires-clause-lean : goal.makes-requires-clause-lean
makes-requires-clause-lean c =
    let small = (all_attained c.args.self.now c.requires.knowing).small _ c.in_ok-ahead.ahead (sym c.ahead_of.ensures ∙ c.in_ok-ahead.was) in
    let from = crossing_within c.args.self.now.problem.now c.args.standing.now.place.crossing c.point-from.result c.requires.knowing.ready c.point-from.ensures in
    let h = across_small c.args.dir c.point-from.result from in
    omega (arith, small.runs, small.lean, h)

pub returns-then-not-makes-clause-none : goal.returns-then-not-makes-clause-none
returns-then-not-makes-clause-none c none m is =
    let p = c.args.self.now.problem.now in
    let s = c.args.standing.now in
    let stage = rw c.as_slice.ensures at c.stage_at-stage.ensures in
    let there = the_move p s.place c.args.dir c.in_ok-crossing.crossing c.stage_at-stage.result c.distance.result c.point-from.result c.point-at.result c.distance.ensures c.requires.knowing.ready c.point-from.ensures c.point-at.ensures c.in_ok-crossing.ensures.nearest stage in
    let to : Place = record { crossing = c.in_ok-crossing.crossing; stage = c.stage_at-stage.result; heading = c.args.dir } in
    let only = the_only p (knowledge_of c.args.self.now) s c.args.dir c.requires.knowing.ready.arena m _ to is there.0 refl in
    let is_this : Some c.in_ok-ahead.ahead ≡ Some m.ahead = sym c.in_ok-ahead.was ∙ c.ahead_of.ensures ∙ ap (known_of c.args.self.now) (sym only.1.0) ∙ is.is_known in
    let ahead : c.in_ok-ahead.ahead ≡ m.ahead = cc in
    let begin : is.move.begin ≡ c.point-from.result = only.1.1 ∙ there.1 in
    let steps : m.steps ≡ c.distance.result = only.0 in
    let fits : with_stretch p.task.now.penalty s.place.heading (record { from = c.point-from.result; dir = c.args.dir; steps = c.distance.result }) c.in_ok-ahead.ahead ≡ s.ahead =
    (λ i. with_stretch p.task.now.penalty s.place.heading (record { from = sym begin i; dir = c.args.dir; steps = sym steps i }) (ahead i)) ∙ is.fits in
    let made = c.makes.ensures.1 fits in
    let test = c.if-not-makes.true in
    absurd (cc)

pub returns-clause-is : goal.returns-clause-is
returns-clause-is c =
    let p = c.args.self.now.problem.now in
    let s = c.args.standing.now in
    let stage = rw c.as_slice.ensures at c.stage_at-stage.ensures in
    let there = the_move p s.place c.args.dir c.in_ok-crossing.crossing c.stage_at-stage.result c.distance.result c.point-from.result c.point-at.result c.distance.ensures c.requires.knowing.ready c.point-from.ensures c.point-at.ensures c.in_ok-crossing.ensures.nearest stage in
    let fits : with_stretch p.task.now.penalty s.place.heading (record { from = c.point-from.result; dir = c.args.dir; steps = c.distance.result }) c.in_ok-ahead.ahead ≡ s.ahead = c.makes.ensures.0 (search rules) in
    record {
      move = there.0;
      dir = refl;
      leads = c.if-not-leads.ensures.0 (search rules);
      is_known = sym c.ahead_of.ensures ∙ c.in_ok-ahead.was;
      fits = ap (λ (q : Point). with_stretch p.task.now.penalty s.place.heading (record { from = q; dir = c.args.dir; steps = c.distance.result }) c.in_ok-ahead.ahead) there.1 ∙ fits;
    }
