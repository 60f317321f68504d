-- One connector on.
use Rattle.std.proofs.Common.{◌++◌}
use Rattle.std.specs.List.{flat_map}
use Rattle.live_replies.specs.Texts.{gone_text}
use Rattle.report_text.proofs.Lists.{one_pushed}
use Rattle.live_replies.proofs.change.push_all_gone.Goals as goal

pub loop-edge-preserved : goal.loop-edge-preserved
loop-edge-preserved c =
    one_pushed gone_text (c.args.out.now.items ++ flat_map gone_text c.args.gone.now) c.loop-edge.out.items c.push_gone.new.out.items c.args.gone.now
    c.loop-edge.edge-index _ c.loop-edge-test.true c.loop-edge.invariant c.in_ok-push_gone.ensures
