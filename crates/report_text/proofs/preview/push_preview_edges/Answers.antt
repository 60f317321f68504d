-- One edge on.
use Rattle.std.proofs.Common.{◌++◌}
use Rattle.report_text.specs.Previews.{preview_edge_line, preview_edge_lines}
use Rattle.report_text.proofs.Lists.{one_pushed}
use Rattle.report_text.proofs.preview.push_preview_edges.Goals as goal

pub loop-edge-preserved : goal.loop-edge-preserved
loop-edge-preserved c =
    one_pushed (preview_edge_line c.args.number) (c.args.out.now.items ++ preview_edge_lines c.args.number c.args.edges.now) c.loop-edge.out.items c.push_preview_edge.new.out.items c.args.edges.now c.loop-edge.edge-index _
    c.loop-edge-test.true c.loop-edge.invariant c.in_ok-push_preview_edge.ensures
