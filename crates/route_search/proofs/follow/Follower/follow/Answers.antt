-- What is left of the first walk is found step by step.
use Rattle.std.proofs.Common.{◌≡◌, ◌+◌, ◌==◌, if◌then◌else◌, List, [], ◌∷◌, ◌++◌, Some, inl, inr, refl, sym, ap, subst, ◌∙◌, arith}
use Rattle.std.specs.Prelude.{slice_get}
use Rattle.std.proofs.lemmas.Option.{get_or_from_slice_get}
use Rattle.plane_geom.specs.declared.point.Point.{Point}
use Rattle.plane_geom.specs.Point.{PointIsOnSheet, forward}
use Rattle.line_arena.proofs.Arenas.ArenaLaws.{one_point}
use Rattle.walk_model.specs.declared.task.Choice.{Choice}
use Rattle.walk_model.specs.Cost.{turn}
use Rattle.route_search.specs.Known.{knowledge_of}
use Rattle.route_search.proofs.Ahead.Knowing.{all_attained}
use Rattle.route_search.specs.Following.{IsNext}
use Rattle.route_search.proofs.Tracing.Corners.{route_through}
use Rattle.route_search.proofs.Tracing.Entering.{cost_is, enters, small_lead}
use Rattle.route_search.proofs.Tracing.Following.{IsFollowing, how_on}
use Rattle.exit_spread.proofs.Sizes.{crossing_within}
use Rattle.route_search.proofs.Tracing.Stepping.{ends_with, goes_with}
use Rattle.route_search.proofs.follow.Follower.follow.Goals as goal

pub unreachable-requires : goal.unreachable-requires
unreachable-requires c =
    let i = c.loop-dir.invariant in
    let on = how_on c.args.self.now.problem.now (knowledge_of c.args.self.now) i.0 i.1.way c.requires.knowing.ready c.loop-dir.standing c.loop-dir.points.items i.2 in
    let none = c.in_default.ensures.none refl on.dir in
    elim on.how as (λ _. ⊥) [
      | inl h ↦ none.tails h.0 h.1.tail
      | inr h ↦ none.moves h.0 h.1.move
    ]

pub forward-requires-clause-within : goal.forward-requires-clause-within
forward-requires-clause-within c = crossing_within c.args.self.now.problem.now c.loop-dir.standing.place.crossing c.point-at.result c.requires.knowing.ready c.point-at.ensures

pub loop-dir-init : goal.loop-dir-init
loop-dir-init c =
    let p = c.args.self.now.problem.now in
    let e = c.requires.enters in
    let start = e.1.way.along.start in
    let is_start : slice_get c.as_slice.result.now c.args.entry.choice ≡ Some start =
    ap (λ (xs : List Choice). slice_get xs c.args.entry.choice) c.as_slice.ensures ∙ ap (slice_get p.task.now.starts) e.1.start ∙ e.1.way.along.is_start in
    let points : c.in_ok-points.points.items ≡ start.pin ∷ [] =
    c.in_ok-points.ensures.items ∙ ap (λ (x : Choice). x.pin ∷ []) (get_or_from_slice_get c.as_slice.result.now c.args.entry.choice start _ is_start) in
    (e.0, e.1, enters p (knowledge_of c.args.self.now) c.requires.knowing.ready c.args.entry c.args.ahead e.0 e.1 c.in_ok-points.points.items points)

pub loop-dir-preserved : goal.loop-dir-preserved
loop-dir-preserved c =
    let p = c.args.self.now.problem.now in
    let i = c.loop-dir.invariant in
    let f = i.2 in
    let s = c.loop-dir.standing in
    let ps = c.loop-dir.points.items in
    let next = subst (IsNext p (knowledge_of c.args.self.now) s c.in-Some.dir) c.in-Go.is c.in-Some.ensures.is in
    let here : f.at ≡ c.point-at.result = one_point p.arena.now s.place.crossing f.at c.point-at.result c.requires.knowing.ready.arena f.here c.point-at.ensures in
    let drawn : (if turn s.place.heading c.in-Some.dir == 0 then ps else ps ++ (f.at ∷ [])) ≡ c.turn_off.new.points.items =
    ap (λ (q : Point). if turn s.place.heading c.in-Some.dir == 0 then ps else ps ++ (q ∷ [])) here ∙ sym c.in_ok-turn_off.ensures in (
      i.0,
      i.1,
      subst (IsFollowing p (knowledge_of c.args.self.now) i.0 i.1.way c.in-Go.further) drawn
          (goes_with p (knowledge_of c.args.self.now) i.0 i.1.way c.requires.knowing.ready s ps f (all_attained c.args.self.now c.requires.knowing) c.in-Some.dir c.in-Go.further next),
    )

pub forward-requires-clause-ends_within : goal.forward-requires-clause-ends_within
forward-requires-clause-ends_within c =
    let p = c.args.self.now.problem.now in
    let i = c.loop-dir.invariant in
    let f = i.2 in
    let s = c.loop-dir.standing in
    let next = subst (IsNext p (knowledge_of c.args.self.now) s c.in-Some.dir) c.in-Stop.is c.in-Some.ensures.is in
    let here : f.at ≡ c.point-at.result = one_point p.arena.now s.place.crossing f.at c.point-at.result c.requires.knowing.ready.arena f.here c.point-at.ensures in
    subst (λ q. PointIsOnSheet (forward c.in-Some.dir c.in-Stop.tail.steps q)) here
    (ends_with p (knowledge_of c.args.self.now) i.0 i.1.way c.requires.knowing.ready s c.loop-dir.points.items f (all_attained c.args.self.now c.requires.knowing) c.in-Some.dir c.in-Stop.tail next).at

pub overflow_add-result : goal.overflow_add-result
overflow_add-result c =
    let e = c.requires.enters in
    let lead = small_lead c.args.self.now.problem.now (knowledge_of c.args.self.now) c.requires.knowing.ready c.args.entry c.args.ahead e.0 e.1 c.requires.entry in
    let small = (all_attained c.args.self.now c.requires.knowing).small c.args.entry.place c.args.ahead e.1.is_known in
    omega (arith, lead, small.cost)

pub returns-in-Stop : goal.returns-in-Stop
returns-in-Stop c =
    let p = c.args.self.now.problem.now in
    let i = c.loop-dir.invariant in
    let f = i.2 in
    let s = c.loop-dir.standing in
    let ps = c.loop-dir.points.items in
    let next = subst (IsNext p (knowledge_of c.args.self.now) s c.in-Some.dir) c.in-Stop.is c.in-Some.ensures.is in
    let here : c.point-at.result ≡ f.at = one_point p.arena.now s.place.crossing c.point-at.result f.at c.requires.knowing.ready.arena c.point-at.ensures f.here in
    let end = ends_with p (knowledge_of c.args.self.now) i.0 i.1.way c.requires.knowing.ready s ps f (all_attained c.args.self.now c.requires.knowing) c.in-Some.dir c.in-Stop.tail next in
    let last = forward c.in-Some.dir c.in-Stop.tail.steps in
    let drawn : c.from_vec.result ≡ (if turn s.place.heading c.in-Some.dir == 0 then ps else ps ++ (f.at ∷ [])) ++ (last f.at ∷ []) =
    c.from_vec.ensures ∙ c.in_ok-push-in-Stop.ensures.items ∙ ap (λ qs. qs ++ (c.forward.result ∷ [])) c.in_ok-turn_off.ensures
    ∙ (λ k. (if turn s.place.heading c.in-Some.dir == 0 then ps else ps ++ (here k ∷ [])) ++ ((c.forward.ensures ∙ ap last here) k ∷ [])) in (
      i.0,
      i.1.way.first,
      route_through p.task.now i.0
          (record { start = c.args.entry.choice; end = c.in-Stop.tail.end; points = c.from_vec.result; cost = c.args.entry.lead + c.args.ahead.cost })
          (drawn ∙ end.drawn) i.1.start end.end
          (cost_is p (knowledge_of c.args.self.now) c.requires.knowing.ready c.args.entry c.args.ahead i.0 i.1 c.requires.entry),
    )
