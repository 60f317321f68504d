-- One more line is written.
use Rattle.nudge_phases.specs.Lines.{IsWrittenLine}
use Rattle.nudge_phases.proofs.RouteRuns.{each_all, each_more, each_none}
use Rattle.nudge_phases.proofs.lines.written_lines.Goals as goal

pub loop-route-init : goal.loop-route-init
loop-route-init c = each_none IsWrittenLine c.args.routes.now c.in_ok-lines.lines.items c.in_ok-lines.ensures.items

pub loop-route-preserved : goal.loop-route-preserved
loop-route-preserved c =
    each_more IsWrittenLine c.args.routes.now c.loop-route.route-index c.loop-route.lines.items _ c.route-item.result c.in_ok-written.field-0
    c.loop-route.invariant c.loop-route-test.true c.route-item.is c.in_ok-written.ensures c.in_ok-push.ensures.items

pub returns : goal.returns
returns c = each_all IsWrittenLine c.args.routes.now c.loop-route.route-index c.loop-route.lines.items c.loop-route.invariant c.loop-route-test.false
