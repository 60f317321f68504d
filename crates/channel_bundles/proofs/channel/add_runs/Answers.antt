-- A run of the way is added with its limits.
use Rattle.std.proofs.Common.{◌≡◌, ◌++◌, ◌<◌, ◌≤◌, length, map, ap, ◌∙◌, arith, sym, subst, refl, true≢false}
use Rattle.std.specs.Prelude.{All}
use Rattle.std.proofs.lemmas.List.{take_all}
use Rattle.std.proofs.lemmas.List.Elements.{All-get_or}
use Rattle.segment_order.specs.declared.run.Run.{Run}
use Rattle.segment_order.specs.Run.{run_at}
use Rattle.channel_bundles.specs.Leaders.{without_edge}
use Rattle.channel_bundles.specs.Limits.{MayMove}
use Rattle.channel_bundles.specs.Placed.{IsPlaced, pairs_of}
use Rattle.channel_bundles.specs.Route.{IsPhaseRoute, of_way}
use Rattle.channel_bundles.specs.Walls.{AreWalls}
use Rattle.channel_bundles.proofs.Leading.{runs_are}
use Rattle.channel_bundles.proofs.Placing.{added, paired, is_placed, more_routes, none_more, one_more}
use Rattle.channel_bundles.proofs.channel.add_runs.Goals as goal
use Rattle.channel_bundles.proofs.channel.add_runs.Goals.{then-is_of_way+in_ok-push, else-is_of_way}

pub member-requires-clause-route : goal.member-requires-clause-route
member-requires-clause-route c =
    subst IsPhaseRoute (sym c.index-routes-at.is) (All-get_or IsPhaseRoute c.args.routes.now c.args.at c.index-routes-at.result c.requires.at c.requires.routes)

pub member-requires-clause-walls : goal.member-requires-clause-walls
member-requires-clause-walls c = subst (λ way. AreWalls way c.args.walls.now) (sym (c.is_of_way.ensures.0 c.if-is_of_way.true)) c.requires.walls

pub member-requires-clause-stands : goal.member-requires-clause-stands
member-requires-clause-stands c =
    let may = subst (MayMove c.args.walls.now.solids.now c.args.way) (sym c.index-routes-at.is)
    (All-get_or (MayMove c.args.walls.now.solids.now c.args.way) c.args.routes.now c.args.at c.index-routes-at.result c.requires.at c.requires.movable) in
    may c.loop-k.k (omega arith) (c.is_of_way.ensures.0 c.if-is_of_way.true)

pub loop-k-preserved : goal.loop-k-preserved
loop-k-preserved c =
    let solids = c.args.walls.now.solids.now in
    let routes = c.args.routes.now in
    let route = c.index-routes-at.result in
    let k = c.loop-k.k in
    let old = c.loop-k.placed.items in
    let in_k : k < length route.runs.items = omega arith in
    let good = subst IsPhaseRoute (sym c.index-routes-at.is) (All-get_or IsPhaseRoute routes c.args.at route c.requires.at c.requires.routes) in
    let leader = c.leader_of-leader.ensures ∙ ap (map without_edge) (runs_are routes c.args.at route c.requires.at c.index-routes-at.is) in
    elim c.if-is_of_way.branch [
      | then-is_of_way+in_ok-push w ↦
          let items = ap (λ v. v.items) w.placed-is ∙ w.in_ok-push.ensures.items in
          let m = w.member.result in
          let e = w.member.ensures in
          let standing = is_placed solids route k m good in_k e.run e.fixed e.limits e.weight in (
            added solids routes old _ _ c.loop-k.invariant.0 (record { standing = standing; member = e.member; leader = leader }) items,
            one_more route c.args.way route.runs.items k _ _ _ m.run in_k e.run (ap (λ r. r.way) e.run ∙ c.is_of_way.ensures.0 w.if-is_of_way.true) c.loop-k.invariant.1 (paired old _ _ items),
          )
      | else-is_of_way w ↦
          let items = ap (λ v. v.items) w.placed-is in
          let other : (run_at route.runs.items k).way ≡ c.args.way → ⊥ = λ e. true≢false (sym (c.is_of_way.ensures.1 e) ∙ w.if-is_of_way.false) in (
            subst (All (IsPlaced solids routes)) (sym items) c.loop-k.invariant.0,
            ap pairs_of items ∙ none_more route c.args.way route.runs.items k _ _ (run_at route.runs.items k) in_k refl other c.loop-k.invariant.1,
          )
    ]

pub returns-clause-runs : goal.returns-clause-runs
returns-clause-runs c =
    let route = c.index-routes-at.result in
    let all : length route.runs.items ≤ c.loop-k.k = omega arith in
    more_routes c.args.way c.args.routes.now c.args.at route _ _ c.requires.at c.index-routes-at.is c.requires.before
    (c.loop-k.invariant.1 ∙ ap (λ rs. pairs_of c.args.placed.now.items ++ map (λ (r : Run). (route, r)) (of_way c.args.way rs)) (take_all c.loop-k.k route.runs.items all))
