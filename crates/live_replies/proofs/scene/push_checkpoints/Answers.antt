-- One element on.
use Rattle.std.proofs.Common.{◌++◌}
use Rattle.std.specs.List.{flat_map}
use Rattle.report_text.proofs.Lists.{one_pushed}
use Rattle.live_replies.specs.Scene.{checkpoint_line}
use Rattle.live_replies.proofs.scene.push_checkpoints.Goals as goal

pub loop-point-preserved : goal.loop-point-preserved
loop-point-preserved c =
    one_pushed checkpoint_line (c.args.out.now.items ++ flat_map checkpoint_line c.args.via.now) c.loop-point.out.items c.push_checkpoint.new.out.items c.args.via.now c.loop-point.point-index _
    c.loop-point-test.true c.loop-point.invariant c.in_ok-push_checkpoint.ensures
