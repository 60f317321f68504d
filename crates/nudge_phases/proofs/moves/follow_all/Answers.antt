-- One more route has followed.
use Rattle.std.proofs.Common.{List, length, get_or, set, arith, refl, sym, ap, subst}
use Rattle.std.specs.Vec.{with_items}
use Rattle.std.proofs.lemmas.List.{get_or_default}
use Rattle.segment_order.specs.declared.run.Run.{Run}
use Rattle.channel_bundles.specs.declared.route.PhaseRoute.{PhaseRoute}
use Rattle.nudge_phases.specs.Steps.{HaveFollowed}
use Rattle.nudge_phases.proofs.Following.{all_end, all_more}
use Rattle.nudge_phases.proofs.RouteRuns.{take_whole}
use Rattle.nudge_phases.proofs.moves.follow_all.Goals as goal

pub loop-route-preserved : goal.loop-route-preserved
loop-route-preserved c =
    let now = c.loop-route.routes in
    let k = c.loop-route.route-index in
    let item = c.route-item.result in
    let h = c.loop-route-test.true in
    let count = c.loop-route.invariant.count in
    let r = get_or now k item in
    let s : PhaseRoute = record r { runs = with_items r.runs c.follow.new.runs } in
    all_more c.args.way c.args.routes.now now (set now k s) k r s c.loop-route.invariant (omega (arith, h, count)) (get_or_default now k item r (omega (arith, h, c.loop-route.auto.routes))) refl
    (record {
      same = record { edge = refl; weight = refl; anchors = refl };
      runs = subst (λ (rs : List Run). HaveFollowed c.args.way r.runs.items rs)
          (sym (take_whole c.follow.new.runs _ r.runs.len (let n = c.follow.ensures.count in let m = ap length c.deref_mut.ensures.value in let l = r.runs.ok.0 in omega (arith, n, m, l))))
          (subst (λ (rs : List Run). HaveFollowed c.args.way rs c.follow.new.runs) c.deref_mut.ensures.value c.follow.ensures);
    })

pub returns : goal.returns
returns c = all_end c.args.way c.args.routes.now c.loop-route.routes c.loop-route.route-index c.loop-route.invariant (let past = c.loop-route-test.false in let count = c.loop-route.invariant.count in omega (arith, past, count))
