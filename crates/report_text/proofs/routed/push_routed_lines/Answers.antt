-- One element on.
use Rattle.report_text.specs.Routed.{routed_lines, routed_line}
use Rattle.report_text.proofs.Lists.{one_pushed}
use Rattle.report_text.proofs.routed.push_routed_lines.Goals as goal

pub loop-edge-preserved : goal.loop-edge-preserved
loop-edge-preserved c =
    one_pushed routed_line (routed_lines c.args.edges.now) c.loop-edge.text.items c.push_routed_line.new.out.items c.args.edges.now c.loop-edge.edge-index _
    c.loop-edge-test.true c.loop-edge.invariant c.in_ok-push_routed_line.ensures
