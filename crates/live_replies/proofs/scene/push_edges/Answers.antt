-- One element on.
use Rattle.std.proofs.Common.{◌++◌, ap, ◌∙◌}
use Rattle.std.specs.List.{flat_map}
use Rattle.report_text.proofs.Lists.{one_pushed}
use Rattle.live_replies.specs.Scene.{connector_lines}
use Rattle.live_replies.proofs.scene.push_edges.Goals as goal

pub loop-edge-preserved : goal.loop-edge-preserved
loop-edge-preserved c =
    one_pushed (connector_lines c.args.drawing.now.session.book) (c.args.out.now.items ++ flat_map (connector_lines c.args.drawing.now.session.book) c.args.edges.now) c.loop-edge.out.items c.push_edge.new.out.items c.args.edges.now c.loop-edge.edge-index c.edge-item.result
    c.loop-edge-test.true c.loop-edge.invariant
    (c.in_ok-push_edge.ensures ∙ ap (λ e. c.loop-edge.out.items ++ connector_lines c.args.drawing.now.session.book e) c.edge-item.is)
