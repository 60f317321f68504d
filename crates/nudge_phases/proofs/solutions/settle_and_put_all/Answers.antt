-- One more bundle is settled; when all are, each run of the way is put.
use Rattle.std.proofs.Common.{get_or, sym, subst}
use Rattle.std.specs.Prelude.{All}
use Rattle.std.proofs.lemmas.List.Elements.{All-get_or}
use Rattle.channel_bundles.specs.declared.channel.RunBundle.{RunBundle}
use Rattle.nudge_phases.specs.Steps.{IsRunIn}
use Rattle.nudge_phases.proofs.Putting.{place_there, runs_before}
use Rattle.nudge_phases.proofs.RouteRuns.{still_rise}
use Rattle.nudge_phases.proofs.Settling.{settled_all, settled_more, settled_none}
use Rattle.nudge_phases.proofs.solutions.settle_and_put_all.Goals as goal

pub loop-run_bundle-init : goal.loop-run_bundle-init
loop-run_bundle-init c = settled_none c.args.found.now c.args.routes.now c.requires.routes c.requires.edges

pub settle_and_put-requires-clause-edges : goal.settle_and_put-requires-clause-edges
settle_and_put-requires-clause-edges c =
    let so = c.loop-run_bundle.invariant.put c.requires.bundles.0 c.requires.bundles.1 in
    still_rise c.args.routes.now c.loop-run_bundle.routes so.count (λ k r s e f. (so.each k r s e f).same.edge) c.requires.edges

pub settle_and_put-requires-clause-there : goal.settle_and_put-requires-clause-there
settle_and_put-requires-clause-there c =
    let way = c.requires.bundles.0 in
    let before = c.args.routes.now in
    let found = c.args.found.now in
    let k = c.loop-run_bundle.run_bundle-index in
    let b = c.run_bundle-item.result in
    let is = c.loop-run_bundle.invariant in
    let so = is.put way c.requires.bundles.1 in
    let own = subst (λ (q : RunBundle). All (IsRunIn before way) q.runs.items) (sym c.run_bundle-item.is)
    (All-get_or (λ (q : RunBundle). All (IsRunIn before way) q.runs.items) found k b c.loop-run_bundle-test.true c.requires.bundles.1.own) in
    λ i d h. place_there way found is.solutions before c.loop-run_bundle.routes (runs_before found k) (get_or b.runs.items i d) c.requires.routes so (own i d h)

pub loop-run_bundle-preserved : goal.loop-run_bundle-preserved
loop-run_bundle-preserved c =
    settled_more c.args.found.now c.args.routes.now c.requires.routes c.requires.edges c.loop-run_bundle.run_bundle-index c.run_bundle-item.result c.loop-run_bundle.routes _
    c.loop-run_bundle-test.true c.run_bundle-item.is c.loop-run_bundle.invariant c.in_ok-settle_and_put.ensures

pub returns : goal.returns
returns c =
    settled_all c.args.found.now c.args.routes.now c.requires.routes c.requires.edges c.loop-run_bundle.run_bundle-index c.loop-run_bundle.routes c.loop-run_bundle-test.false c.loop-run_bundle.invariant
