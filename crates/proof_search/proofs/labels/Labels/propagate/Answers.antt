-- Direction by direction.
use Rattle.std.proofs.Common.{subst}
use Rattle.line_arena.proofs.Arenas.ArenaLaws.{one_point}
use Rattle.route_search.proofs.Moving.Directions.{directions}
use Rattle.proof_search.specs.Scopes.{ComesBy}
use Rattle.proof_search.specs.Search.{OnFloors, place_at}
use Rattle.proof_search.proofs.Offers.Propagating.{all_propagated, propagating_begins, propagating_more}
use Rattle.proof_search.proofs.labels.Labels.propagate.Goals as goal

pub loop-dir-init : goal.loop-dir-init
loop-dir-init c = propagating_begins c.args.problem.now c.args.scope c.args.self.now c.args.place.now c.point-at.result c.args.cost directions

pub offer_move-requires-clause-searching : goal.offer_move-requires-clause-searching
offer_move-requires-clause-searching c =
    let s = c.requires.searching in
    (s.0, c.loop-dir.invariant.searching s.0 s.1)

pub offer_move-requires-clause-comes : goal.offer_move-requires-clause-comes
offer_move-requires-clause-comes c =
    let p = c.args.problem.now in
    let x = c.args.place.now in
    let coming = c.requires.coming in
    let same = one_point p.arena.now x.crossing coming.at c.point-at.result c.requires.ready.arena coming.here c.point-at.ensures in
    subst (λ q. OnFloors p (λ floor. ComesBy c.args.scope floor p.task.now (place_at x q) c.args.cost)) same coming.comes

pub loop-dir-preserved : goal.loop-dir-preserved
loop-dir-preserved c =
    propagating_more c.args.problem.now c.args.scope c.args.self.now c.loop-dir.self c.offer_move.new.self c.args.place.now c.point-at.result c.args.cost
    directions c.loop-dir.dir-index
    c.loop-dir.invariant c.in_ok-offer_move.ensures.searching c.in_ok-offer_move.ensures.spreads c.in_ok-offer_move.ensures.lighter
    c.in_ok-offer_move.ensures.propagated

pub returns-clause-propagated : goal.returns-clause-propagated
returns-clause-propagated c =
    all_propagated c.args.problem.now c.requires.ready c.args.scope c.args.self.now c.loop-dir.self c.args.place.now c.point-at.result c.args.cost
    c.loop-dir.dir-index
    c.point-at.ensures c.loop-dir.invariant c.loop-dir-test.false
